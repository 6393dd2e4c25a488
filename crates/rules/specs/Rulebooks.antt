-- The two rulebooks: what each answers, service by service. Assumes nothing.
use Rattle.std.specs.Prelude.{ℕ, ◌*◌, min, cond, List, [], ◌∷◌, Err, ◌==◌, nat_lt}
use Rattle.rules.specs.declared.facts.Facts.{Facts}
use Rattle.rules.specs.declared.refusal.Refusal.TheVariants.{NotCovered}
use Rattle.rules.specs.Answers.{Answer}
use Rattle.rules.specs.Ranges.{peak}
use Rattle.rules.specs.Services.{Service, answer, agc_regulation, deep_shaving, spinning_reserve, start_stop, ramp, load_control, storage_charging, unplanned_outage, fixed_fee}

-- the line of a table that has the number of the service answers; where none has, refusal 5
unfoldable pub table : List (ℕ × Service) → Facts → Answer
table [] f = Err NotCovered
table (line ∷ lines) f = cond (f.service == line.0) (answer line.1 f) (table lines f)

-- a service with its amounts changed by the facts
abbrev pub changed : (Facts → ℕ → ℕ) → Service → Service
changed change s = record {
  number = s.number;
  kinds = s.kinds;
  fits = s.fits;
  account = s.account;
  amount = λ f. change f (s.amount f);
}

-- five times as much in January, July, August and December
abbrev pub in_season : Facts → ℕ → ℕ
in_season f amount = cond (peak f) (amount * 5) amount

-- nothing before March 2025, month count 24,302; from then on 5,000,000 fen at most
abbrev pub after_grace : Facts → ℕ → ℕ
after_grace f amount = cond (nat_lt f.month_count 24_302) 0 (min amount 5_000_000)

-- rulebook 1: rate 10, factor 10
abbrev pub rulebook_1 : List (ℕ × Service)
rulebook_1 =
    (1, agc_regulation 10)
    ∷ (2, deep_shaving 10)
    ∷ (3, spinning_reserve)
    ∷ (4, start_stop)
    ∷ (5, ramp)
    ∷ (6, load_control)
    ∷ (7, storage_charging)
    ∷ (8, changed in_season unplanned_outage)
    ∷ (9, fixed_fee)
    ∷ []

-- rulebook 2: rate 6, factor 12
abbrev pub rulebook_2 : List (ℕ × Service)
rulebook_2 =
    (1, agc_regulation 6)
    ∷ (2, deep_shaving 12)
    ∷ (3, spinning_reserve)
    ∷ (4, start_stop)
    ∷ (5, ramp)
    ∷ (6, load_control)
    ∷ (7, storage_charging)
    ∷ (8, changed after_grace unplanned_outage)
    ∷ (9, changed after_grace fixed_fee)
    ∷ []
