-- Asking for a party's account sums, as they are and as if an event were struck. The book stays as it is. Assumes nothing.
use Rattle.std.specs.Prelude.{◌≡◌, ℕ, not, ◌||◌, List, [], ◌∷◌, ◌++◌, Some, None, Option, Result}
use Rattle.rules.specs.declared.refusal.Refusal.{Refusal}
use Rattle.rules.specs.declared.refusal.Refusal.TheVariants.{UnknownParty, NoSuchEvent, StruckAlready, OutOfStep}
use Rattle.rules.specs.Answers.{Rulebook}
use Rattle.rules.specs.declared.sums.Sums.{Sums}
use Rattle.settlement.specs.Registers.{has, found}
use Rattle.records.specs.Journal.{event_at, this_month, kind_at, struck, standing_events}
use Rattle.records.specs.declared.enrolment.Enrolment.{Enrolment}
use Rattle.records.specs.Asking.{worth}
use Rattle.rules.specs.Sums.{listed}
use Rattle.billing.specs.Lines.{Line, number}
use Rattle.settlement.specs.Book.{Book, Room}
use Rattle.settlement.specs.Checks.{Check, ◌when◌, Call, cut_short}

-- What the standing events of this month among the words come to, for a party.
abbrev pub sums_in : Rulebook → ℕ → Enrolment → List ℕ → Sums
sums_in means m p ws = worth means m p (standing_events (this_month ws))

-- The sums that the journal's words of this month give the party of a line.
abbrev pub ReadsSums : Rulebook → ℕ → List ℕ → Option Line → List ℕ → Type 0
ReadsSums means m ws None s = ⊥
ReadsSums means m ws (Some l) s = s ≡ listed (sums_in means m l.party ws)

-- Reasons against asking for a party's account sums.
abbrev pub account_sums_checks : Room → ℕ → Book → List Check
account_sums_checks room p b =
    (OutOfStep when cut_short room.journal b)
    ∷ (UnknownParty when not (has number p b.lines))
    ∷ []

-- A party's account sums: those of its standing events in the journal.
abbrev pub AccountSums : Rulebook → Room → ℕ → Book → Result (List ℕ) Refusal → Book → Type 0
AccountSums means room p b =
    Call (account_sums_checks room p b) (ReadsSums means b.month b.words (found number p b.lines)) b b

-- Reasons against an event at a place: no event of this month is there, or it is struck.
abbrev pub standing_checks : Room → ℕ → Book → List Check
standing_checks room place b =
    (OutOfStep when cut_short room.journal b)
    ∷ (NoSuchEvent when not (kind_at 1 place b.words || kind_at 2 place b.words))
    ∷ (StruckAlready when kind_at 2 place b.words)
    ∷ []

-- Reasons against asking what if the event at a place were struck.
abbrev pub what_if_checks : Room → ℕ → Book → List Check
what_if_checks room place b =
    standing_checks room place b ++ ((OutOfStep when not (has number (event_at place b.words).party b.lines)) ∷ [])

-- The account sums of an event's party as if that event were struck.
abbrev pub WhatIf : Rulebook → Room → ℕ → Book → Result (List ℕ) Refusal → Book → Type 0
WhatIf means room place b =
    Call (what_if_checks room place b)
    (ReadsSums means b.month (struck place b.words) (found number (event_at place b.words).party b.lines)) b b
