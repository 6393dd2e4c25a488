use Rattle.std.proofs.Common.{rules}
use Rattle.billing.proofs.Shares.{part_none}
use Rattle.billing.proofs.sharing.Sharing.over.Goals as goal

pub invariant_of-result : goal.invariant_of-result
invariant_of-result c = search (rules, part_none)
