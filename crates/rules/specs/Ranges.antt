-- Which facts lie in range, whatever the service. Assumes nothing.
use Rattle.std.specs.Prelude.{◌≡◌, ℕ, ◌≤◌, Bool, true, false, ◌&&◌, ◌||◌, ◌⊎◌, List, ℤ, pos, neg_ℤ, ◌==◌, int_le, nat_le, unsigned_abs}
use Rattle.rules.specs.declared.facts.Facts.{Facts}
use Rattle.rules.specs.declared.kind.Kind.{Kind}
use Rattle.rules.specs.declared.refusal.Refusal.{Refusal}
use Rattle.rules.specs.declared.refusal.Refusal.TheVariants.{OutOfRange, NotCovered}
use Rattle.rules.specs.Calendar.{month_of, first_month, last_month}
use Rattle.rules.specs.Kinds.{one_of}

-- from lo to hi, both included
abbrev pub within : (lo hi n : ℕ) → Bool
within lo hi n = nat_le lo n && nat_le n hi

-- −n
abbrev pub minus : ℕ → ℤ
minus n = neg_ℤ (pos n)

-- from lo to hi, both included, of a number with a sign
abbrev pub between : (lo hi z : ℤ) → Bool
between lo hi z = int_le lo z && int_le z hi

-- an unused quantity is 0
abbrev pub unused : ℤ → Bool
unused z = unsigned_abs z == 0

-- a quantity of 0 or more
abbrev pub not_negative : ℤ → Bool
not_negative z = int_le (pos 0) z

-- the capacity is 1 to 4,000,000 kW, and both quantities are −4,000,000 to 4,000,000
abbrev pub sizes_fit : Facts → Bool
sizes_fit f =
    within 1 4_000_000 f.capacity
    && nat_le (unsigned_abs f.x) 4_000_000
    && nat_le (unsigned_abs f.y) 4_000_000

-- the month is 1 to 12, the count is of January 2000 to December 2099, and of that month
abbrev pub month_fits : Facts → Bool
month_fits f =
    within 1 12 f.month
    && within first_month last_month f.month_count
    && month_of f.month_count == f.month

-- the facts lie in range
unfoldable pub in_range : Facts → Bool
in_range f = sizes_fit f && month_fits f

-- what holds of the sizes of facts in range
pub record Sizes (f : Facts) : Type 0 where
  pub capacity : f.capacity ≤ 4_000_000
  pub x : unsigned_abs f.x ≤ 4_000_000
  pub y : unsigned_abs f.y ≤ 4_000_000

-- the facts are of this service and of one of these kinds
abbrev pub named_by : (service : ℕ) → List Kind → Facts → Bool
named_by service kinds f = f.service == service && one_of kinds f.kind

-- what holds of facts that a service may answer by its column
pub record Passes (service : ℕ) (kinds : List Kind) (f : Facts) : Type 0 where
  pub named : named_by service kinds f ≡ true
  pub ranged : in_range f ≡ true
  pub sizes : Sizes f

-- why it may not: refusal 5 where they are of another service or kind, then refusal 4 out of range
abbrev pub Refuses : (service : ℕ) → List Kind → Facts → Refusal → Type 0
Refuses service kinds f e =
    ((named_by service kinds f ≡ false) × (e ≡ NotCovered))
    ⊎ ((named_by service kinds f ≡ true) × (in_range f ≡ false) × (e ≡ OutOfRange))

-- January, July, August and December
abbrev pub peak : Facts → Bool
peak f = f.month == 1 || f.month == 7 || f.month == 8 || f.month == 12
