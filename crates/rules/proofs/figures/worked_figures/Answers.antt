use Rattle.std.proofs.Common.{refl}
use Rattle.rules.specs.Division.{quotient}
use Rattle.rules.specs.Ranges.{in_range}
use Rattle.rules.specs.Rulebooks.{table}
use Rattle.rules.proofs.figures.worked_figures.Goals as goal

pub returns : goal.returns
unfolding table in_range quotient
returns c = record {
  agc_below = refl;
  agc_from = refl;
  agc_charged = refl;
  agc_beyond = refl;
  shaved = refl;
  shaved_deeper = refl;
  shaved_half = refl;
  outage_in_june = refl;
  outage_in_january = refl;
  largest_in_june = refl;
  largest_in_july = refl;
}
