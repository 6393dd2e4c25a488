-- The book that a month and the memory lent to it stand for. Assumes nothing.
use Rattle.std.specs.Prelude.{◌≡◌, ℕ, length, take, drop, Ok, Err, Result}
use Rattle.register.specs.Held.{held, room, Kept}
use Rattle.rules.specs.declared.refusal.Refusal.{Refusal}
use Rattle.billing.specs.Lent.{lines_of}
use Rattle.settlement.specs.Book.{Book, Room}
use Rattle.settlement.specs.declared.memory.Memory.{Memory}
use Rattle.settlement.specs.declared.month.Month.{Month}

-- the room that the memory has, and a sheet of so many rows
abbrev pub room_of : (rows : ℕ) → Memory → Room
room_of rows m = record { journal = length m.words.now; roster = room m.roster; objecting = room m.objections; sheet = rows }

-- the book of a month over the memory, in either state
abbrev pub book_of : {S : Type 0} → Month S → Memory → Book
book_of month m = record {
  month = month.count;
  used = month.used;
  words = take month.used m.words.now;
  lines = lines_of m.roster;
  objections = held m.objections;
  fund = month.fund;
}

-- The same memory is lent, and what no book uses is as it was: words past the used ones, lines past those in use.
pub record Beyond (used : ℕ) (before after : Memory) : Type 0 where
  pub lent : after.words.ghost_name ≡ before.words.ghost_name
  pub words : drop used after.words.now ≡ drop used before.words.now
  pub long : length after.words.now ≡ length before.words.now
  pub roster : Kept before.roster after.roster
  pub objections : Kept before.objections after.objections

-- What a call leaves of the memory: after a refusal all of it. `used` is how many words are used after the call.
abbrev pub Left : {X : Type 0} → Result X Refusal → (used : ℕ) → Memory → Memory → Type 0
Left (Ok _) used before after = Beyond used before after
Left (Err _) used before after = after ≡ before
