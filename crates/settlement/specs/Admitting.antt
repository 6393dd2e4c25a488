-- What the reading halves of the calls find out, before anything is written. Assumes nothing.
use Rattle.std.specs.Prelude.{◌≡◌, ℕ, ◌<◌, ◌≤◌, true, false, List, Some, None, Ok, Err, Option, Result, slice_set}
use Rattle.rules.specs.Answers.{Rulebook}
use Rattle.rules.specs.declared.refusal.Refusal.{Refusal}
use Rattle.records.specs.declared.enrolment.Enrolment.{Enrolment}
use Rattle.records.specs.declared.event.Event.{Event}
use Rattle.records.specs.Words.{event_words}
use Rattle.records.specs.Journal.{event_at}
use Rattle.billing.specs.Lines.{Line, number}
use Rattle.billing.specs.Lent.{line_of}
use Rattle.settlement.specs.Registers.{found, changed}
use Rattle.settlement.specs.Book.{Book, Room}
use Rattle.settlement.specs.Checks.{first_of}
use Rattle.settlement.specs.Posting.{unpostable, admission_checks, answer_to, charge}
use Rattle.settlement.specs.Objecting.{can_strike, take_off}
use Rattle.settlement.specs.Asking.{standing_checks, what_if_checks}
use Rattle.settlement.specs.declared.month.admitting.Admission.{Admission}
use Rattle.settlement.specs.declared.month.answering.Refund.{Refund}

-- the words of an event that the month allows
abbrev pub WordsFor : ℕ → Event → Option (List ℕ) → Type 0
WordsFor m e None = unpostable m e ≡ true
WordsFor m e (Some ws) = (unpostable m e ≡ false) × (ws ≡ event_words e)

-- An event that may be posted, if the journal has room: on which account, what it comes to, its words, and its party's line with the amount.
pub record Admitted (means : Rulebook) (room : Room) (e : Event) (b : Book) (a : Admission) : Type 0 where
  pub free : first_of (admission_checks means room e b) ≡ None
  pub meant : answer_to means e b ≡ Ok (a.account, a.amount)
  pub words : a.words ≡ event_words e
  pub step : b.used ≤ room.journal
  pub lines : changed number e.party (charge means b.month e) b.lines ≡ slice_set b.lines a.line (line_of a.party)

abbrev pub Admitting : Rulebook → Room → Event → Book → Result Admission Refusal → Type 0
Admitting means room e b (Ok a) = Admitted means room e b a
Admitting means room e b (Err x) = first_of (admission_checks means room e b) ≡ Some x

-- A standing event's first word is at the place.
pub record StandsThere (room : Room) (place : ℕ) (b : Book) : Type 0 where
  pub free : first_of (standing_checks room place b) ≡ None
  pub step : b.used ≤ room.journal
  pub inside : place < b.used

abbrev pub Standing : Room → ℕ → Book → Result (Unit {0}) Refusal → Type 0
Standing room place b (Ok _) = StandsThere room place b
Standing room place b (Err x) = first_of (standing_checks room place b) ≡ Some x

-- The party of the event at the place, by its enrolment.
pub record PartyOf (room : Room) (place : ℕ) (b : Book) (p : Enrolment) : Type 0 where
  pub free : first_of (what_if_checks room place b) ≡ None
  pub line : Line
  pub there : found number (event_at place b.words).party b.lines ≡ Some line
  pub enrolled : line.party ≡ p

abbrev pub Partys : Room → ℕ → Book → Result Enrolment Refusal → Type 0
Partys room place b (Ok p) = PartyOf room place b p
Partys room place b (Err x) = first_of (what_if_checks room place b) ≡ Some x

-- What an upheld objection takes off again: the party's line without the event's amount.
pub record Refunded (means : Rulebook) (place : ℕ) (b : Book) (r : Refund) : Type 0 where
  pub can : can_strike means place b ≡ true
  pub lines : changed number (event_at place b.words).party (take_off means b.month (event_at place b.words)) b.lines ≡ slice_set b.lines r.line (line_of r.party)

abbrev pub Refunding : Rulebook → ℕ → Book → Option Refund → Type 0
Refunding means place b None = can_strike means place b ≡ false
Refunding means place b (Some r) = Refunded means place b r
