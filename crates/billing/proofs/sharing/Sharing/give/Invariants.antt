use Rattle.std.proofs.Common.{◌≡◌, ◌+◌, ◌++◌, take, drop}
use Rattle.billing.specs.Sharing.{total, shares_from}
use Rattle.billing.proofs.sharing.Sharing.give.Given as goal

-- the weight still to come, the shares still to come, and the shares written so far
abbrev pub invariant-loop-i : goal.invariant-loop-i
invariant-loop-i l = (l.self.passed + total (drop l.i l.weights) ≡ l.self.whole)
    × (shares_from l.self.pool l.self.whole l.self.passed (drop l.i l.weights)
    ≡ drop l.i (shares_from l.initial.self.pool l.initial.self.whole l.initial.self.passed l.weights))
    × (l.shares ≡ take l.i (shares_from l.initial.self.pool l.initial.self.whole l.initial.self.passed l.weights) ++ drop l.i l.initial.shares)
