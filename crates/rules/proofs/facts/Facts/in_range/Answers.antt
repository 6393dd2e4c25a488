use Rattle.std.proofs.Common.{rules}
use Rattle.rules.specs.Ranges.{in_range}
use Rattle.rules.proofs.facts.Facts.in_range.Goals as goal

pub returns-then-sizes_fit : goal.returns-then-sizes_fit
unfolding in_range
returns-then-sizes_fit c = search rules

pub returns-else-sizes_fit : goal.returns-else-sizes_fit
unfolding in_range
returns-else-sizes_fit c = search rules
