-- One call for any command of the book, in any state. Assumes nothing.
use Rattle.std.specs.Prelude.{◌≡◌, ℕ, false, cond, List, [], ◌∷◌, ◌++◌, map, length, take, drop, Ok, Err, Result}
use Rattle.rules.specs.Answers.{Rulebook}
use Rattle.billing.specs.declared.bill.Bill.{Bill}
use Rattle.settlement.specs.Book.{State, no_book, in_month, published, Room}
use Rattle.settlement.specs.Lent.{book_of, Beyond}
use Rattle.settlement.specs.declared.memory.Memory.{Memory}
use Rattle.book.specs.declared.call.Call.{Call}
use Rattle.book.specs.declared.answer.Reply.{Reply}
use Rattle.book.specs.declared.answer.Denial.{Denial}
use Rattle.book.specs.declared.answer.Denial.TheVariants.{Misplaced}
use Rattle.book.specs.declared.answer.Reply.TheVariants.{Done, Placed, Posted, Sums, Settled}
use Rattle.book.specs.declared.stage.Stage.{Stage}
use Rattle.book.specs.declared.stage.Stage.TheVariants.{NoBook, Open, Published}
use Rattle.book.specs.Runs.{Entry, Trace, Step, Run}
use Rattle.book.specs.Entries.{call_of, answer_of, rows_of, allows}
use Rattle.book.specs.Laws.{Lawful}

-- the state of a book over the memory lent to it
abbrev pub state_of : Stage → Memory → State
state_of NoBook m = no_book
state_of (Open month) m = in_month (book_of month m)
state_of (Published month) m = published (book_of month m)

-- how many words of the journal are used
abbrev pub used_in : State → ℕ
used_in no_book = 0
used_in (in_month b) = b.used
used_in (published b) = b.used

-- steps one after another, the last one first
abbrev pub Steps : Rulebook → Room → State → List Entry → State → Type 0
Steps means room before [] after = after ≡ before
Steps means room before (e ∷ es) after = (mid : State) × Steps means room before es mid × Step means room mid e after

-- the bills of entries
abbrev pub rows_in : List Entry → List Bill
rows_in [] = []
rows_in (e ∷ es) = rows_of e ++ rows_in es

-- The call was made, and `added` are the entries that it adds to a trace: one, for this call with this answer, where the state allows
-- the call, and none where it does not. The bills of an accepted settling are the first rows of the sheet.
pub record Served (means : Rulebook) (room : Room) (before : State) (call : Call) (answer : Result Reply Denial) (sheet : List Bill) (after : State) : Type 0 where
  pub added : List Entry
  pub calls : map call_of added ≡ cond (allows before call) (call ∷ []) []
  pub answers : map answer_of added ≡ cond (allows before call) (answer ∷ []) []
  pub turned_away : allows before call ≡ false → answer ≡ Err Misplaced
  pub billed : rows_in added ≡ take (length (rows_in added)) sheet
  pub steps : Steps means room before added after

-- Whatever run led to the state before, the entries added make it a longer run to the state after, and a lawful one.
pub record Carried (means : Rulebook) (before : State) (added : List Entry) (after : State) : Type 0 where
  pub run : (t : Trace) → Run means t before → Run means (added ++ t) after
  pub lawful : (t : Trace) → Run means t before → Lawful means (added ++ t) after

pub record Carries (means : Rulebook) (room : Room) (before : State) (call : Call) (answer : Result Reply Denial) (sheet : List Bill) (after : State) : Type 0 where
  pub served : Served means room before call answer sheet after
  pub carried : Carried means before served.added after

-- What the memory holds after a call: all as before where it was refused or only asked; else all that no book uses.
abbrev pub MemoryLeft : Result Reply Denial → State → Memory → Memory → Type 0
MemoryLeft (Ok Done) after m m' = Beyond (used_in after) m m'
MemoryLeft (Ok (Placed _)) after m m' = Beyond (used_in after) m m'
MemoryLeft (Ok (Posted _)) after m m' = Beyond (used_in after) m m'
MemoryLeft (Ok (Sums _)) after m m' = m' ≡ m
MemoryLeft (Ok (Settled _)) after m m' = Beyond (used_in after) m m'
MemoryLeft (Err _) after m m' = m' ≡ m

-- What the sheet holds after a call: all as before, but for the rows of an accepted settling.
abbrev pub SheetLeft : Result Reply Denial → List Bill → List Bill → Type 0
SheetLeft (Ok Done) s s' = s' ≡ s
SheetLeft (Ok (Placed _)) s s' = s' ≡ s
SheetLeft (Ok (Posted _)) s s' = s' ≡ s
SheetLeft (Ok (Sums _)) s s' = s' ≡ s
SheetLeft (Ok (Settled t)) s s' = (drop t.rows s' ≡ drop t.rows s) × (length s' ≡ length s)
SheetLeft (Err _) s s' = s' ≡ s
