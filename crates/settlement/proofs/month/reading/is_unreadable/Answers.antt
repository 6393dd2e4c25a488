use Rattle.std.proofs.Common.{rules}
use Rattle.settlement.specs.Enrolling.{unreadable}
use Rattle.settlement.proofs.month.reading.is_unreadable.Goals as goal

pub returns-then-unsigned_abs-gt-MOST_FIGURE : goal.returns-then-unsigned_abs-gt-MOST_FIGURE
unfolding unreadable
returns-then-unsigned_abs-gt-MOST_FIGURE c = search rules

pub returns-then-reading-lt0 : goal.returns-then-reading-lt0
unfolding unreadable
returns-then-reading-lt0 c = search rules

pub returns-else-reading-lt0 : goal.returns-else-reading-lt0
unfolding unreadable
returns-else-reading-lt0 c = search rules
