-- The objections as the calls use them. Assumes nothing.
use Rattle.std.specs.Prelude.{◌≡◌, ℕ, min, Bool, true, false, List, length, Some, None, Ok, Err, Option, Result, nat_le, slice_set}
use Rattle.std.specs.List.{remove}
use Rattle.rules.specs.declared.refusal.Refusal.{Refusal}
use Rattle.rules.specs.declared.refusal.Refusal.TheVariants.{ObjectionsFull}
use Rattle.register.specs.declared.Register.{Register}
use Rattle.register.specs.Held.{held, room, LaidBy}
use Rattle.settlement.specs.declared.objection.Objection.{Objection}
use Rattle.settlement.specs.Registers as by
use Rattle.settlement.specs.Book.{place_of}
use Rattle.settlement.specs.Objecting.{waits}

-- The objection stands in the order of places.
pub record Lodged (place : ℕ) (before after : Register Objection 16) : Type 0 where
  pub spare : nat_le (min 16 (room before)) (length (held before)) ≡ false
  pub lines : held after ≡ by.entered place_of (record { place = place; waiting = true }) (held before)

-- No line was left, and all is as it was.
pub record NoRoom (before after : Register Objection 16) : Type 0 where
  pub none : nat_le (min 16 (room before)) (length (held before)) ≡ true
  pub same : after ≡ before

abbrev pub Lodging : ℕ → Register Objection 16 → Result (Unit {0}) Refusal → Register Objection 16 → Type 0
Lodging place before (Ok _) after = Lodged place before after
Lodging place before (Err e) after = NoRoom before after × (e ≡ ObjectionsFull)

-- The objection to the event at the place waits; it stands at i.
pub record WaitsAt (place : ℕ) (os : List Objection) (i : ℕ) : Type 0 where
  pub waiting : waits (by.found place_of place os) ≡ true
  pub dismissed : by.changed place_of place (λ o. record { place = o.place; waiting = false }) os ≡ slice_set os i (record { place = place; waiting = false })
  pub freed : by.removed place_of place os ≡ remove os i

abbrev pub Pending : ℕ → List Objection → Option ℕ → Type 0
Pending place os None = waits (by.found place_of place os) ≡ false
Pending place os (Some i) = WaitsAt place os i

-- What upholding leaves of the freed line: it lies right past the lines in use. Dismissing frees none.
abbrev pub Freed : Bool → ℕ → Result (Unit {0}) Refusal → Register Objection 16 → Register Objection 16 → Type 0
Freed true place (Ok _) before after = (i : ℕ) × WaitsAt place (held before) i × LaidBy i before after
Freed true place (Err _) before after = after ≡ before
Freed false place r before after = Unit {0}
