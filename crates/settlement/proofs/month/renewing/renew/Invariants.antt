use Rattle.std.proofs.Common.{◌≡◌}
use Rattle.register.specs.Held.{count, Kept}
use Rattle.billing.specs.Lent.{lines_of}
use Rattle.settlement.proofs.Renewals.{SoFar}
use Rattle.settlement.proofs.month.renewing.renew.Given as goal

abbrev pub invariant-loop-i : goal.invariant-loop-i
invariant-loop-i l = SoFar (lines_of l.initial.roster) (lines_of l.roster) l.i × Kept l.initial.roster l.roster × (count l.roster ≡ count l.initial.roster)
