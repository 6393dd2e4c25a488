use Rattle.std.proofs.Common.{◌≡◌, ◌+◌, ◌*◌, ◌≤◌, drop}
use Rattle.billing.specs.Giving.{too_heavy}
use Rattle.billing.specs.Sharing.{total}
use Rattle.billing.proofs.sharing.whole_weight.Given as goal

-- the weight so far, with what is left, is the whole; none so far is too heavy
abbrev pub invariant-loop-weight : goal.invariant-loop-weight
invariant-loop-weight l = (l.whole + total (drop l.weight-index l.weights) ≡ total l.weights)
    × (l.whole ≤ 2_976_000 * l.weight-index)
    × (too_heavy (drop l.weight-index l.weights) ≡ too_heavy l.weights)
