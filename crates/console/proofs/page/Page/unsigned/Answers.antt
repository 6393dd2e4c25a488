use Rattle.std.proofs.lemmas.Fmt.{decimal_digit}
use Rattle.console.proofs.page.Page.unsigned.Goals as goal

pub returns-then-n-lt10-clause-wrote : goal.returns-then-n-lt10-clause-wrote
returns-then-n-lt10-clause-wrote c = rw (decimal_digit c.args.n c.if-n-lt10.true) c.byte.ensures.wrote
