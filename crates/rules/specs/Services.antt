-- The nine services: whom each names, what fits it, the account, the amount. Assumes nothing.
use Rattle.std.specs.Prelude.{ℕ, ◌+◌, ◌-◌, ◌*◌, min, Bool, cond, ◌&&◌, List, [], ◌∷◌, pos, Ok, Err, int_lt, nat_le, nat_lt, slice_index, unsigned_abs}
use Rattle.rules.specs.declared.account.Account.{Account}
use Rattle.rules.specs.declared.account.Account.TheVariants.{Charges, First, Second, Third}
use Rattle.rules.specs.declared.facts.Facts.{Facts}
use Rattle.rules.specs.declared.kind.Kind.{Kind}
use Rattle.rules.specs.declared.kind.Kind.TheVariants.{Coal, Gas, Hydro, Storage, Market}
use Rattle.rules.specs.declared.refusal.Refusal.TheVariants.{OutOfRange, NotCovered, OverCeiling}
use Rattle.rules.specs.Answers.{Answer}
use Rattle.rules.specs.Division.{quotient}
use Rattle.rules.specs.Kinds.{is, plants}
use Rattle.rules.specs.Ranges.{between, minus, unused, not_negative, named_by, in_range}

-- a service: its number, the kinds it names, the facts of its column, and where it enters how much
pub record Service : Type 0 where
  pub number : ℕ
  pub kinds : List Kind
  pub fits : Facts → Bool
  pub account : Facts → Account
  pub amount : Facts → ℕ

-- the service and the kind are those that the rule names
abbrev pub named : Service → Facts → Bool
named s f = named_by s.number s.kinds f

-- an amount on an account, or refusal 6 above the ceiling of 1,000,000,000 fen
abbrev pub up_to_ceiling : Account → ℕ → Answer
up_to_ceiling account amount = cond (nat_le amount 1_000_000_000) (Ok (account, amount)) (Err OverCeiling)

-- the order of refusals: 5 for a service or kind not named, 4 out of range or column, 6 over the ceiling
abbrev pub answer : Service → Facts → Answer
answer s f =
    cond (named s f)
    (cond (in_range f && s.fits f) (up_to_ceiling (s.account f) (s.amount f)) (Err OutOfRange))
    (Err NotCovered)

-- 1. AGC regulation: X the move in kW, Y the index in thousandths; rate in yuan per MW.
-- An index from 900 is paid, one below 0 is charged, any other gives nothing.
abbrev pub agc_regulation : (rate : ℕ) → Service
agc_regulation rate = record {
  number = 1;
  kinds = plants;
  fits = λ f. between (minus 2_000) (pos 2_000) f.y;
  account = λ f. cond (int_lt f.y (pos 0)) Charges First;
  amount = λ f. cond (between (pos 0) (pos 899) f.y) 0 (quotient (unsigned_abs f.x * unsigned_abs f.y * rate) 10_000);
}

-- the price of deep shaving: from so many percent of the capacity, so much
abbrev pub bands : List (ℕ × ℕ)
bands = (45, 250) ∷ (40, 350) ∷ (35, 500) ∷ (30, 600) ∷ []

-- the price of the first band that the output reaches, else 700
abbrev pub price_in : List (ℕ × ℕ) → (capacity output : ℕ) → ℕ
price_in [] capacity output = 700
price_in (band ∷ more) capacity output =
    cond (nat_le (capacity * band.0) (output * 100)) band.1 (price_in more capacity output)

-- 2. Deep shaving: X the output, from 0 and below half the capacity; factor in tenths.
abbrev pub deep_shaving : (factor : ℕ) → Service
deep_shaving factor = record {
  number = 2;
  kinds = Coal ∷ [];
  fits = λ f. not_negative f.x && nat_lt (2 * unsigned_abs f.x) f.capacity && unused f.y;
  account = λ f. First;
  amount = λ f. quotient ((f.capacity - 2 * unsigned_abs f.x) * price_in bands f.capacity (unsigned_abs f.x) * factor) 2_400;
}

-- how far apart two sizes are
abbrev pub apart : ℕ → ℕ → ℕ
apart m n = (m - n) + (n - m)

-- 3. Spinning reserve: X the declared maximum, Y the output, both from 0 to the capacity.
abbrev pub spinning_reserve : Service
spinning_reserve = record {
  number = 3;
  kinds = Coal ∷ Hydro ∷ [];
  fits = λ f. between (pos 0) (pos f.capacity) f.x && between (pos 0) (pos f.capacity) f.y;
  account = λ f. First;
  amount = λ f. quotient (apart (unsigned_abs f.x) (unsigned_abs f.y) * cond (is Coal f.kind) 15 8) 120;
}

-- 4. Start and stop: 80 fen a kW of coal to 100,000 kW, 200 of larger coal, 10 of gas.
abbrev pub start_stop : Service
start_stop = record {
  number = 4;
  kinds = Coal ∷ Gas ∷ [];
  fits = λ f. unused f.x && unused f.y;
  account = λ f. First;
  amount = λ f. f.capacity * cond (is Gas f.kind) 10 (cond (nat_le f.capacity 100_000) 80 200);
}

-- 5. Ramp: X in kW, Y 1 where the rate was met, else 0.
abbrev pub ramp : Service
ramp = record {
  number = 5;
  kinds = plants;
  fits = λ f. not_negative f.x && between (pos 0) (pos 1) f.y;
  account = λ f. Third;
  amount = λ f. quotient (unsigned_abs f.x * (7 + 6 * unsigned_abs f.y)) 4;
}

-- 6. Load control: X in kW, Y 1 where all indexes were met, else 0.
abbrev pub load_control : Service
load_control = record {
  number = 6;
  kinds = Market ∷ [];
  fits = λ f. not_negative f.x && between (pos 0) (pos 1) f.y;
  account = λ f. Second;
  amount = λ f. unsigned_abs f.x * unsigned_abs f.y;
}

-- 7. Storage charging: X in kWh, at 30 fen.
abbrev pub storage_charging : Service
storage_charging = record {
  number = 7;
  kinds = Storage ∷ [];
  fits = λ f. not_negative f.x && unused f.y;
  account = λ f. First;
  amount = λ f. unsigned_abs f.x * 30;
}

-- 8. Unplanned outage: X the kW stopped, from 1 to the capacity; Y the minutes, of which 2,880 count at most.
abbrev pub unplanned_outage : Service
unplanned_outage = record {
  number = 8;
  kinds = Coal ∷ Gas ∷ [];
  fits = λ f. between (pos 1) (pos f.capacity) f.x && between (pos 0) (pos 44_640) f.y;
  account = λ f. Charges;
  amount = λ f. unsigned_abs f.x * 40 + quotient (f.capacity * min (unsigned_abs f.y) 2_880) 30;
}

-- the fixed fees in yuan, codes 1 to 8
abbrev pub fees : List ℕ
fees = 100_000 ∷ 50_000 ∷ 20_000 ∷ 10_000 ∷ 5_000 ∷ 20_000 ∷ 10_000 ∷ 5_000 ∷ []

-- 9. Fixed fee: X its code. A yuan is 100 fen.
abbrev pub fixed_fee : Service
fixed_fee = record {
  number = 9;
  kinds = plants;
  fits = λ f. between (pos 1) (pos 8) f.x && unused f.y;
  account = λ f. Charges;
  amount = λ f. 100 * slice_index fees (unsigned_abs f.x - 1);
}
