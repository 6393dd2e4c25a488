use Rattle.register.specs.Held.{held}
use Rattle.settlement.proofs.Finds.{line_looked_up}
use Rattle.settlement.proofs.roster.line_of.Goals as goal

pub returns : goal.returns
returns c = line_looked_up c.args.number (held c.args.roster.now) c.lookup.result c.lookup.ensures.first c.lookup.ensures.line
