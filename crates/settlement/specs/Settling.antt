-- Settling the published month. Assumes nothing.
use Rattle.std.specs.Prelude.{◌≡◌, ℕ, ◌+◌, Bool, ◌||◌, List, [], ◌∷◌, ◌++◌, map, length, Ok, Err, Result, nat_le, nat_lt}
use Rattle.std.specs.List.{list_any}
use Rattle.rules.specs.declared.refusal.Refusal.{Refusal}
use Rattle.rules.specs.declared.refusal.Refusal.TheVariants.{JournalFull, Unanswered, CalendarEnd, SheetShort, NoWeight, OutOfStep}
use Rattle.rules.specs.Calendar.{last_month}
use Rattle.records.specs.Words.{word}
use Rattle.billing.specs.Lines.{Line, blank}
use Rattle.settlement.specs.declared.objection.Objection.{Objection}
use Rattle.settlement.specs.Book.{Book, State, no_book, in_month, published, Room}
use Rattle.billing.specs.declared.bill.Bill.{Bill}
use Rattle.billing.specs.Bills.{sums_over, above_limit, dues_of, lacks_weight, bills_of}
use Rattle.settlement.specs.Checks.{Check, ◌when◌, Accepted, Refused, cut_short, lacks_room}

-- An objection waits for its answer.
abbrev pub any_waiting : List Objection → Bool
any_waiting os = list_any (λ o. o.waiting) os

-- Reasons against settling, in the order in which they are looked for.
abbrev pub settle_checks : Room → Book → List Check
settle_checks room b =
    (OutOfStep when (cut_short room.journal b || above_limit (sums_over b.lines)))
    ∷ (Unanswered when any_waiting b.objections)
    ∷ (CalendarEnd when nat_le last_month b.month)
    ∷ (SheetShort when nat_lt room.sheet (length b.lines))
    ∷ (NoWeight when lacks_weight b.month b.lines b.fund)
    ∷ (JournalFull when lacks_room room.journal 1 b)
    ∷ []

-- A line of the new month.
abbrev pub renewed : Line → Line
renewed l = blank l.party

-- The month ends with so much money left: the journal gets its end; objections, readings and sums are emptied; the following month begins.
abbrev pub rolled : (left : ℕ) → Book → Book
rolled left b = record {
  month = b.month + 1;
  used = b.used + 1;
  words = b.words ++ (word 6 b.month ∷ []);
  lines = map renewed b.lines;
  objections = [];
  fund = left;
}

-- Settling leaves the following month, with the money that the pools leave of the fund.
abbrev pub settle : Book → Book
settle b = rolled (dues_of b.lines b.fund).left b

-- What a settling answers: the rows of the sheet, and the money left.
pub record Reckoning : Type 0 where
  pub rows : List Bill
  pub left : ℕ

-- The answer: the bills, and the money left.
pub record Settles (b : Book) (s : Reckoning) : Type 0 where
  pub rows_are : s.rows ≡ bills_of b.month b.lines b.fund
  pub left_is : s.left ≡ (dues_of b.lines b.fund).left

-- An accepted settling begins the following month; a refused one leaves the month published.
abbrev pub Settle : Room → Book → Result Reckoning Refusal → State → Type 0
Settle room b (Ok s) (in_month after) = Accepted (settle_checks room b) (Settles b) (settle b) s after
Settle room b (Ok s) (published after) = ⊥
Settle room b (Ok s) no_book = ⊥
Settle room b (Err e) (published after) = Refused (settle_checks room b) e b after
Settle room b (Err e) (in_month after) = ⊥
Settle room b (Err e) no_book = ⊥
