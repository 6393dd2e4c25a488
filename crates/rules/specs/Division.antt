-- The one division by which amounts are made, and its laws. Assumes nothing.
use Rattle.std.specs.Prelude.{◌≡◌, ℕ, ◌*◌, ◌/◌, ◌≤◌}

-- a whole by a divisor: the fraction of a fen is dropped; by 0 it is 0
unfoldable pub quotient : (whole by : ℕ) → ℕ
quotient whole by = whole / by

-- all that rules may use of it
pub record Laws : Type 0 where
  -- more is not less when divided
  pub monotone : (less more by : ℕ) → less ≤ more → quotient less by ≤ quotient more by
  -- what is at most so many times the divisor gives at most so many
  pub bound : (whole by most : ℕ) → whole ≤ by * most → quotient whole by ≤ most
  -- nothing divided is nothing
  pub zero : (by : ℕ) → quotient 0 by ≡ 0
