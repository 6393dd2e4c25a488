-- How a call is accepted or refused. Assumes nothing.
use Rattle.std.specs.Prelude.{◌≡◌, ℕ, ◌+◌, min, Bool, cond, ◌&&◌, List, [], ◌∷◌, Some, None, Ok, Err, Option, Result, nat_le, nat_lt}
use Rattle.rules.specs.declared.refusal.Refusal.{Refusal}
use Rattle.settlement.specs.Book.{Book}

-- A reason against a call, with the test of whether it holds.
abbrev pub Check : Type 0
Check = Refusal × Bool

-- `reason when test`.
infix 5 ◌when◌
abbrev pub ◌when◌ : Refusal → Bool → Check
r when test = (r, test)

-- The first reason that holds.
abbrev pub first_of : List Check → Option Refusal
first_of [] = None
first_of (c ∷ cs) = cond c.1 (Some c.0) (first_of cs)

-- Nothing is refused, or this is.
abbrev pub unless : Option Refusal → Result (Unit {0}) Refusal
unless None = Ok tt
unless (Some e) = Err e

-- An accepted call: no reason holds, the answer is right, and the book is as the effect says.
pub record Accepted {A : Type 0} (checks : List Check) (right : A → Type 0) (effect : Book) (answer : A) (after : Book) : Type 0 where
  pub free : first_of checks ≡ None
  pub answers : right answer
  pub leaves : after ≡ effect

-- A refused call: the first reason is given, and the book is as before.
pub record Refused (checks : List Check) (e : Refusal) (before after : Book) : Type 0 where
  pub reason : first_of checks ≡ Some e
  pub same : after ≡ before

-- A call with its answer, from the book before to the book after.
abbrev pub Call : {A : Type 0} → List Check → (A → Type 0) → (effect before : Book) → Result A Refusal → Book → Type 0
Call checks right effect before (Ok answer) after = Accepted checks right effect answer after
Call checks right effect before (Err e) after = Refused checks e before after

-- The answer of a call that only says that it was accepted.
abbrev pub Done : Unit {0} → Type 0
Done _ = Unit {0}

-- A figure in its range.
abbrev pub within : ℕ → ℕ → ℕ → Bool
within low high n = nat_le low n && nat_le n high

-- The journal that is lent is shorter than the used words.
abbrev pub cut_short : ℕ → Book → Bool
cut_short room b = nat_lt room b.used

-- It has no room for so many words more, of those lent and of the 1,048,576 that may be used.
abbrev pub lacks_room : ℕ → ℕ → Book → Bool
lacks_room room more b = nat_lt (min room 1_048_576) (b.used + more)
