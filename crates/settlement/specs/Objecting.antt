-- Objecting to an event of the published month, and answering the objection. Assumes nothing.
use Rattle.std.specs.Prelude.{ℕ, min, Bool, true, false, not, ◌&&◌, List, [], ◌∷◌, ◌++◌, length, Some, None, Ok, Err, Option, Result, nat_le}
use Rattle.rules.specs.declared.refusal.Refusal.{Refusal}
use Rattle.rules.specs.declared.refusal.Refusal.TheVariants.{ObjectedAlready, ObjectionsFull, NoOpenObjection, OutOfStep}
use Rattle.rules.specs.Answers.{Answer, Rulebook}
use Rattle.rules.specs.declared.sums.Sums.{Sums}
use Rattle.rules.specs.Sums.{account, ◌less◌}
use Rattle.settlement.specs.Registers.{has, found, entered, changed, removed}
use Rattle.records.specs.declared.event.Event.{Event}
use Rattle.records.specs.Asking.{facts}
use Rattle.records.specs.Journal.{event_at, standing_at, struck}
use Rattle.billing.specs.Lines.{Line, with_sums, number}
use Rattle.settlement.specs.declared.objection.Objection.{Objection}
use Rattle.settlement.specs.Book.{place_of, Book, with_words, with_lines, with_objections, Room}
use Rattle.settlement.specs.Checks.{Check, ◌when◌, Call, Done, cut_short}
use Rattle.settlement.specs.Asking.{standing_checks}

-- Reasons against objecting to the event at a place, in the order in which they are looked for.
abbrev pub object_checks : Room → ℕ → Book → List Check
object_checks room place b = standing_checks room place b ++ (
    (ObjectedAlready when has place_of place b.objections)
    ∷ (ObjectionsFull when nat_le (min 16 room.objecting) (length b.objections))
    ∷ [])

-- The objection gets a line in the order of places, and waits for its answer.
abbrev pub object : ℕ → Book → Book
object place b = with_objections (entered place_of (record { place = place; waiting = true }) b.objections) b

-- Object to an event.
abbrev pub Object : Room → ℕ → Book → Result (Unit {0}) Refusal → Book → Type 0
Object room place b = Call (object_checks room place b) Done (object place b) b

-- An objection waits for its answer.
abbrev pub waits : Option Objection → Bool
waits None = false
waits (Some o) = o.waiting

-- The sums are not smaller than the amount that the rulebook answers, and it does answer one.
abbrev pub covers : Sums → Answer → Bool
covers s (Ok c) = nat_le c.1 (account c.0 s)
covers s (Err _) = false

-- The event's amount can be taken off the line's sums.
abbrev pub can_take_off : Rulebook → ℕ → Event → Option Line → Bool
can_take_off means m e None = false
can_take_off means m e (Some l) = covers l.sums (means (facts l.party m e))

-- The event at the place can be struck: it stands, its party is enrolled, and its amount can be taken off the party's sums.
abbrev pub can_strike : Rulebook → ℕ → Book → Bool
can_strike means place b =
    let e : Event = event_at place b.words in
    standing_at place b.words && can_take_off means b.month e (found number e.party b.lines)

-- Reasons against answering the objection at a place, in the order in which they are looked for.
abbrev pub answer_checks : Rulebook → Room → ℕ → Bool → Book → List Check
answer_checks means room place upheld b =
    (OutOfStep when cut_short room.journal b)
    ∷ (NoOpenObjection when not (waits (found place_of place b.objections)))
    ∷ (OutOfStep when (upheld && not (can_strike means place b)))
    ∷ []

-- A line with the event's amount taken off again.
abbrev pub take_off : Rulebook → ℕ → Event → Line → Line
take_off means m e l = with_sums (l.sums less means (facts l.party m e)) l

-- Upholding strikes the event, takes its amount off again and frees the objection's line.
abbrev pub uphold : Rulebook → ℕ → Book → Book
uphold means place b =
    let e : Event = event_at place b.words in
    with_words b.used (struck place b.words)
    (with_lines (changed number e.party (take_off means b.month e) b.lines)
    (with_objections (removed place_of place b.objections) b))

-- Dismissing keeps the objection's line until settling.
abbrev pub dismiss : ℕ → Book → Book
dismiss place b = with_objections (changed place_of place (λ o. record { place = o.place; waiting = false }) b.objections) b

-- The answer upholds the objection or dismisses it.
abbrev pub answer : Rulebook → ℕ → Bool → Book → Book
answer means place true b = uphold means place b
answer means place false b = dismiss place b

-- Answer an objection.
abbrev pub AnswerObjection : Rulebook → Room → ℕ → Bool → Book → Result (Unit {0}) Refusal → Book → Type 0
AnswerObjection means room place upheld b = Call (answer_checks means room place upheld b) Done (answer means place upheld b) b
