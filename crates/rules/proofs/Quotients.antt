-- The laws of the division: all that proofs about amounts know of it. Assumes nothing.
use Rattle.std.proofs.Common.{◌≡◌, ℕ, ◌*◌, ◌/◌, ◌≤◌, inl, inr, le_trans, le-div_iff_mul-le, div-mul-le_self, arith}
use native.Mathlib.Nat.{zero-div, div-zero, div-le_of_le-mul}
use Rattle.std.proofs.lemmas.Bool.{cases_eq}
use Rattle.rules.specs.Division.{quotient}

-- more is not less when divided
pub quotient_monotone : (by : ℕ) {a b : ℕ} → a ≤ b → quotient a by ≤ quotient b by
unfolding quotient
quotient_monotone by {a} {b} h =
    elim (cases_eq by 0) [
      | inl e ↦ rw (e, div-zero a) (omega arith)
      | inr ne ↦ (le-div_iff_mul-le {k = by} {x = a / by} {y = b} (omega arith)).1 (le_trans (div-mul-le_self a by) h)
    ]

-- what is at most so many times the divisor gives at most so many
pub quotient_bound : (by : ℕ) {whole most : ℕ} → whole ≤ by * most → quotient whole by ≤ most
unfolding quotient
quotient_bound by h = div-le_of_le-mul by h

-- nothing divided is nothing
pub quotient_zero : (by : ℕ) → quotient 0 by ≡ 0
unfolding quotient
quotient_zero by = zero-div by
