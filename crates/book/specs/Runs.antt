-- A run: calls with their answers, each as its contract says, from no book on. Assumes nothing.
use Rattle.std.specs.Prelude.{◌≡◌, ℕ, Bool, List, [], ◌∷◌, Some, None, Ok, Err, Result}
use Rattle.rules.specs.declared.refusal.Refusal.{Refusal}
use Rattle.rules.specs.Answers.{Rulebook}
use Rattle.records.specs.declared.event.Event.{Event}
use Rattle.billing.specs.declared.reading.Reading.{Reading}
use Rattle.settlement.specs.Book.{Book, new_book, State, no_book, in_month, published, Room}
use Rattle.settlement.specs.Settling.{Reckoning}
use Rattle.settlement.specs.Checks.{first_of}
use Rattle.settlement.specs.Enrolling.{new_checks}
use Rattle.rules.specs.Calendar.{count}
use Rattle.settlement.specs.declared.posted.Posted.{Posted}
use Rattle.settlement.specs.Enrolling as enrolling
use Rattle.settlement.specs.Posting as posting
use Rattle.settlement.specs.Objecting as objecting
use Rattle.settlement.specs.Asking as asking
use Rattle.settlement.specs.Settling as settling

-- A call with its answer.
pub data Entry : Type 0 where
  New : (year month : ℕ) → Result (Unit {0}) Refusal → Entry
  Enrol : (number kind capacity : ℕ) → Result (Unit {0}) Refusal → Entry
  Read : Reading → Result (Unit {0}) Refusal → Entry
  Post : Event → Result Posted Refusal → Entry
  PayIn : ℕ → Result ℕ Refusal → Entry
  Publish : Entry
  Object : ℕ → Result (Unit {0}) Refusal → Entry
  Answer : ℕ → Bool → Result (Unit {0}) Refusal → Entry
  WhatIf : ℕ → Result (List ℕ) Refusal → Entry
  AccountSums : ℕ → Result (List ℕ) Refusal → Entry
  Settle : Result Reckoning Refusal → Entry

-- The calls so far, the last one first.
abbrev pub Trace : Type 0
Trace = List Entry

-- One call with its answer, and the memory lent to it, from the state before to the state after.
pub data Step (means : Rulebook) (room : Room) : State → Entry → State → Type 0 where
  new : {year month : ℕ} → first_of (new_checks year month) ≡ None
      → Step means room no_book (New year month (Ok tt)) (in_month (new_book (count year month)))
  not_new : {year month : ℕ} {e : Refusal} → first_of (new_checks year month) ≡ Some e
      → Step means room no_book (New year month (Err e)) no_book
  enrol : {b b' : Book} {n k c : ℕ} {r : Result (Unit {0}) Refusal}
      → enrolling.Enrol room n k c b r b' → Step means room (in_month b) (Enrol n k c r) (in_month b')
  read : {b b' : Book} {m : Reading} {r : Result (Unit {0}) Refusal}
      → enrolling.Read m b r b' → Step means room (in_month b) (Read m r) (in_month b')
  post : {b b' : Book} {e : Event} {r : Result Posted Refusal}
      → posting.Post means room e b r b' → Step means room (in_month b) (Post e r) (in_month b')
  pay_in : {b b' : Book} {amount : ℕ} {r : Result ℕ Refusal}
      → posting.PayIn room amount b r b' → Step means room (in_month b) (PayIn amount r) (in_month b')
  account_sums : {b b' : Book} {p : ℕ} {r : Result (List ℕ) Refusal}
      → asking.AccountSums means room p b r b' → Step means room (in_month b) (AccountSums p r) (in_month b')
  publish : {b : Book}
      → Step means room (in_month b) Publish (published b)
  object : {b b' : Book} {place : ℕ} {r : Result (Unit {0}) Refusal}
      → objecting.Object room place b r b' → Step means room (published b) (Object place r) (published b')
  answer : {b b' : Book} {place : ℕ} {upheld : Bool} {r : Result (Unit {0}) Refusal}
      → objecting.AnswerObjection means room place upheld b r b' → Step means room (published b) (Answer place upheld r) (published b')
  what_if : {b b' : Book} {place : ℕ} {r : Result (List ℕ) Refusal}
      → asking.WhatIf means room place b r b' → Step means room (published b) (WhatIf place r) (published b')
  account_sums_then : {b b' : Book} {p : ℕ} {r : Result (List ℕ) Refusal}
      → asking.AccountSums means room p b r b' → Step means room (published b) (AccountSums p r) (published b')
  settle : {b : Book} {r : Result Reckoning Refusal} {s : State}
      → settling.Settle room b r s → Step means room (published b) (Settle r) s

-- The calls so far lead to the state; each call may be lent other memory.
pub data Run (means : Rulebook) : Trace → State → Type 0 where
  start : Run means [] no_book
  next : {t : Trace} {s s' : State} {e : Entry} {room : Room}
      → Run means t s → Step means room s e s' → Run means (e ∷ t) s'
