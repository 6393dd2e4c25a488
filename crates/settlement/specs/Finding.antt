-- What is known of a line that was looked for by its number. Assumes nothing.
use Rattle.std.specs.Prelude.{◌≡◌, ℕ, min, true, false, List, length, Some, None, Ok, Err, Option, Result, nat_le, slice_set}
use Rattle.std.specs.List.{remove}
use Rattle.rules.specs.declared.refusal.Refusal.{Refusal}
use Rattle.rules.specs.declared.refusal.Refusal.TheVariants.{RosterFull}
use Rattle.register.specs.declared.Register.{Register}
use Rattle.register.specs.Held.{room}
use Rattle.billing.specs.declared.party.Party.{Party}
use Rattle.billing.specs.Lines.{Line, number}
use Rattle.billing.specs.Lent.{line_of, lines_of}
use Rattle.settlement.specs.Registers as by

-- The record at the place i is the first of the number n; to change or to remove the record of the number is to do so there.
pub record FoundAt {R : Type 0} (key : R → ℕ) (n : ℕ) (rs : List R) (i : ℕ) (r : R) : Type 0 where
  pub there : by.has key n rs ≡ true
  pub named : key r ≡ n
  pub first : by.found key n rs ≡ Some r
  pub change : (f : R → R) → by.changed key n f rs ≡ slice_set rs i (f r)
  pub remove : by.removed key n rs ≡ remove rs i

-- There is none.
pub record Absent {R : Type 0} (key : R → ℕ) (n : ℕ) (rs : List R) : Type 0 where
  pub missing : by.has key n rs ≡ false
  pub none : by.found key n rs ≡ None

-- a party's line, with its place, or that there is none
abbrev pub LineFound : ℕ → List Line → Option (ℕ × Party) → Type 0
LineFound n ls None = Absent number n ls
LineFound n ls (Some at) = FoundAt number n ls at.0 (line_of at.1)

-- The line stands in the order of numbers.
pub record EnteredLine (party : Party) (before after : Register Party 64) : Type 0 where
  pub spare : nat_le (min 64 (room before)) (length (lines_of before)) ≡ false
  pub lines : lines_of after ≡ by.entered number (line_of party) (lines_of before)

-- No line was left, and the roster is as it was.
pub record NoLine (before after : Register Party 64) : Type 0 where
  pub none : nat_le (min 64 (room before)) (length (lines_of before)) ≡ true
  pub same : after ≡ before

abbrev pub Entering : Party → Register Party 64 → Result (Unit {0}) Refusal → Register Party 64 → Type 0
Entering party before (Ok _) after = EnteredLine party before after
Entering party before (Err e) after = NoLine before after × (e ≡ RosterFull)
