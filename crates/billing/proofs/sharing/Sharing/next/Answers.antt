use Rattle.std.proofs.Common.{rules}
use Rattle.billing.specs.Sharing.{part, step}
use Rattle.billing.proofs.Shares.{part_mono, step_none}
use Rattle.billing.proofs.sharing.Sharing.next.Goals as goal

pub returns-then-weight-eq0 : goal.returns-then-weight-eq0
returns-then-weight-eq0 c = search (rules, step_none)

pub overflow_sub-share : goal.overflow_sub-share
unfolding part
overflow_sub-share c = search (rules, part_mono)

pub invariant_of-self : goal.invariant_of-self
unfolding part
invariant_of-self c = search rules

pub returns : goal.returns
unfolding part step
returns c = search rules
