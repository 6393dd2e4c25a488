use Rattle.rules.proofs.Quotients.{quotient_monotone, quotient_bound, quotient_zero}
use Rattle.rules.proofs.division.laws_of_division.Goals as goal

pub returns : goal.returns
returns c = record {
  monotone = λ less more by h. quotient_monotone by h;
  bound = λ whole by most h. quotient_bound by h;
  zero = quotient_zero;
}
