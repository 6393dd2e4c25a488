-- A new book. Assumes nothing.
use Rattle.std.specs.Prelude.{◌≡◌, ℕ, Some, None, Ok, Err, Result}
use Rattle.rules.specs.declared.refusal.Refusal.{Refusal}
use Rattle.rules.specs.Calendar.{count}
use Rattle.settlement.specs.Book.{new_book}
use Rattle.settlement.specs.Checks.{first_of}
use Rattle.settlement.specs.Enrolling.{new_checks}
use Rattle.settlement.specs.Lent.{book_of, Beyond}
use Rattle.settlement.specs.declared.memory.Memory.{Memory}
use Rattle.settlement.specs.declared.month.Month.{Month}
use Rattle.settlement.specs.declared.month.Open.{Open}

-- An open month and no parties, objections, used words or money.
pub record Begun (year month : ℕ) (m : Month Open) (before after : Memory) : Type 0 where
  pub free : first_of (new_checks year month) ≡ None
  pub book : book_of m after ≡ new_book (count year month)
  pub beyond : Beyond 0 before after
  -- lines that were in use keep what they held
  pub roster_lines : after.roster.lines ≡ before.roster.lines
  pub objection_lines : after.objections.lines ≡ before.objections.lines

-- No such month.
pub record NotBegun (year month : ℕ) (e : Refusal) (before after : Memory) : Type 0 where
  pub reason : first_of (new_checks year month) ≡ Some e
  pub same : after ≡ before

abbrev pub New : (year month : ℕ) → Memory → Result (Month Open) Refusal → Memory → Type 0
New year month before (Ok m) after = Begun year month m before after
New year month before (Err e) after = NotBegun year month e before after
