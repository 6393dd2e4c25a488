-- Worked figures of rulebook 1. Assumes nothing.
use Rattle.std.specs.Prelude.{◌≡◌, ℕ, ℤ, pos, Ok, Err}
use Rattle.rules.specs.declared.account.Account.TheVariants.{Charges, First}
use Rattle.rules.specs.declared.kind.Kind.TheVariants.{Coal}
use Rattle.rules.specs.declared.refusal.Refusal.TheVariants.{OutOfRange, OverCeiling}
use Rattle.rules.specs.Answers.{Answer}
use Rattle.rules.specs.Calendar.{count}
use Rattle.rules.specs.Ranges.{minus}
use Rattle.rules.specs.Rulebooks.{table, rulebook_1}

-- what rulebook 1 answers of a coal unit in a month of 2025
abbrev pub coal_unit : (capacity month service : ℕ) (x y : ℤ) → Answer
coal_unit capacity month service x y =
    table rulebook_1 (record {
      kind = Coal;
      capacity = capacity;
      month = month;
      month_count = count 2025 month;
      service = service;
      x = x;
      y = y;
    })

pub record Figures : Type 0 where
  -- AGC regulation of 30,000 kW: an index of 0.899, 0.900, −0.001, 2.001
  pub agc_below : coal_unit 300_000 6 1 (pos 30_000) (pos 899) ≡ Ok (First, 0)
  pub agc_from : coal_unit 300_000 6 1 (pos 30_000) (pos 900) ≡ Ok (First, 27_000)
  pub agc_charged : coal_unit 300_000 6 1 (pos 30_000) (minus 1) ≡ Ok (Charges, 30)
  pub agc_beyond : coal_unit 300_000 6 1 (pos 30_000) (pos 2_001) ≡ Err OutOfRange
  -- deep shaving of 600,000 kW: at 45 percent, one kW below, at half the capacity
  pub shaved : coal_unit 600_000 6 2 (pos 270_000) (pos 0) ≡ Ok (First, 62_500)
  pub shaved_deeper : coal_unit 600_000 6 2 (pos 269_999) (pos 0) ≡ Ok (First, 87_502)
  pub shaved_half : coal_unit 600_000 6 2 (pos 300_000) (pos 0) ≡ Err OutOfRange
  -- an outage of 300,000 kW for an hour in June and in January
  pub outage_in_june : coal_unit 300_000 6 8 (pos 300_000) (pos 60) ≡ Ok (Charges, 12_600_000)
  pub outage_in_january : coal_unit 300_000 1 8 (pos 300_000) (pos 60) ≡ Ok (Charges, 63_000_000)
  -- 4,000,000 kW stopped for two days in June and in July
  pub largest_in_june : coal_unit 4_000_000 6 8 (pos 4_000_000) (pos 2_880) ≡ Ok (Charges, 544_000_000)
  pub largest_in_july : coal_unit 4_000_000 7 8 (pos 4_000_000) (pos 2_880) ≡ Err OverCeiling
