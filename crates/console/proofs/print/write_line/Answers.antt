use Rattle.console.proofs.Pages.{wrote_more}
use Rattle.console.proofs.print.write_line.Goals as goal

pub returns : goal.returns
returns c = wrote_more _ _ c.in_ok-text.ensures.wrote (wrote_more _ _ c.in_ok-write_numbers.ensures c.byte.ensures.wrote)
