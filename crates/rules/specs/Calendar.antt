-- Months by their count, year × 12 + month − 1. Assumes nothing.
use Rattle.std.specs.Prelude.{ℕ, ◌+◌, ◌-◌, ◌*◌, ◌/◌, ◌%◌, cond, ◌&&◌, List, [], ◌∷◌, Ok, Err, Result, ◌==◌, nat_le, nat_lt, slice_index}
use Rattle.rules.specs.declared.refusal.Refusal.{Refusal}
use Rattle.rules.specs.declared.refusal.Refusal.TheVariants.{OutOfRange, CalendarEnd}

-- the days of the months, in a year that is no leap year
abbrev pub month_lengths : List ℕ
month_lengths = 31 ∷ 28 ∷ 31 ∷ 30 ∷ 31 ∷ 30 ∷ 31 ∷ 31 ∷ 30 ∷ 31 ∷ 30 ∷ 31 ∷ []

-- the days of a month; from 2000 to 2099 every fourth year is a leap year
unfoldable pub days : ℕ → ℕ
days m = slice_index month_lengths (m % 12) + cond (m % 12 == 1 && m / 12 % 4 == 0) 1 0

-- the slots of five minutes of a month
abbrev pub slots : ℕ → ℕ
slots m = 288 * days m

-- the count of a month of a year
abbrev pub count : (year month : ℕ) → ℕ
count year month = year * 12 + month - 1

-- January 2000
abbrev pub first_month : ℕ
first_month = 24_000

-- December 2099
abbrev pub last_month : ℕ
last_month = 25_199

-- the month of the year, 1 to 12
abbrev pub month_of : ℕ → ℕ
month_of m = m % 12 + 1

-- the count of a month of the years 2000 to 2099, else refusal 4
abbrev pub counted : (year month : ℕ) → Result ℕ Refusal
counted year month =
    cond (nat_le 2000 year && nat_le year 2099 && nat_le 1 month && nat_le month 12) (Ok (count year month)) (Err OutOfRange)

-- the following month; after December 2099 there is none: refusal 18
abbrev pub following : ℕ → Result ℕ Refusal
following m = cond (nat_lt m last_month) (Ok (m + 1)) (Err CalendarEnd)
