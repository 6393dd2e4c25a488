-- A new book, enrolling a party, and reading its power. Assumes nothing.
use Rattle.std.specs.Prelude.{ℕ, min, Bool, false, not, ◌&&◌, ◌||◌, List, [], ◌∷◌, length, pos, is_some, Some, None, Option, Result, int_lt, nat_le, nat_lt, unsigned_abs}
use Rattle.rules.specs.declared.refusal.Refusal.{Refusal}
use Rattle.rules.specs.declared.refusal.Refusal.TheVariants.{UnknownParty, EnrolledAlready, RosterFull, OutOfRange, SlotPassed}
use Rattle.rules.specs.declared.kind.Kind.{Kind}
use Rattle.rules.specs.Kinds.{kind_of, draws}
use Rattle.rules.specs.Calendar.{slots}
use Rattle.settlement.specs.Registers.{has, found, entered, changed}
use Rattle.records.specs.declared.enrolment.Enrolment.{Enrolment}
use Rattle.billing.specs.declared.reading.Reading.{Reading}
use Rattle.billing.specs.Lines.{Line, blank, number, fits, take_reading}
use Rattle.settlement.specs.Book.{Book, with_lines, Room}
use Rattle.settlement.specs.Checks.{Check, ◌when◌, Call, Done, within}

-- A new book begins with a month of the years 2000 to 2099.
abbrev pub new_checks : (year month : ℕ) → List Check
new_checks year month = (OutOfRange when not (within 2000 2099 year && within 1 12 month)) ∷ []

-- Reasons against enrolling a party, in the order in which they are looked for. The kind is given by its number.
abbrev pub enrol_checks : Room → (number kind capacity : ℕ) → Book → List Check
enrol_checks room n k c b =
    (OutOfRange when not (fits n c && is_some (kind_of k)))
    ∷ (EnrolledAlready when has number n b.lines)
    ∷ (RosterFull when nat_le (min 64 room.roster) (length b.lines))
    ∷ []

-- The party gets a line in the order of numbers.
abbrev pub enrol : Enrolment → Book → Book
enrol p b = with_lines (entered number (blank p) b.lines) b

-- The party of a number and a capacity, where the kind is known.
abbrev pub enrol_as : (number : ℕ) → Option Kind → (capacity : ℕ) → Book → Book
enrol_as n None c b = b
enrol_as n (Some k) c b = enrol (record { number = n; kind = k; capacity = c }) b

-- Enrol a party.
abbrev pub Enrol : Room → (number kind capacity : ℕ) → Book → Result (Unit {0}) Refusal → Book → Type 0
Enrol room n k c b = Call (enrol_checks room n k c b) Done (enrol_as n (kind_of k) c b) b

-- A reading that the month or the kind does not allow: only storage may have a negative one.
unfoldable pub unreadable : ℕ → Kind → Reading → Bool
unreadable m k r = nat_le (slots m) r.slot || (nat_lt 4_000_000 (unsigned_abs r.power) || (int_lt r.power (pos 0) && not (draws k)))

-- The line found, if there is one, may not take the reading, or its readings have passed the slot.
abbrev pub cannot_take : ℕ → Reading → Option Line → Bool
cannot_take m r None = false
cannot_take m r (Some l) = unreadable m l.party.kind r

abbrev pub has_passed : Reading → Option Line → Bool
has_passed r None = false
has_passed r (Some l) = nat_lt r.slot l.passed

-- Reasons against a reading: slots rise for each party.
abbrev pub read_checks : Reading → Book → List Check
read_checks r b =
    (UnknownParty when not (has number r.party b.lines))
    ∷ (OutOfRange when cannot_take b.month r (found number r.party b.lines))
    ∷ (SlotPassed when has_passed r (found number r.party b.lines))
    ∷ []

-- The party's line takes the reading.
abbrev pub read : Reading → Book → Book
read r b = with_lines (changed number r.party (take_reading r) b.lines) b

-- Take a reading.
abbrev pub Read : Reading → Book → Result (Unit {0}) Refusal → Book → Type 0
Read r b = Call (read_checks r b) Done (read r b) b
