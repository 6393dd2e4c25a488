-- The refusals and their numbers. Assumes nothing.
use Rattle.std.specs.Prelude.{ℕ}
use Rattle.rules.specs.declared.refusal.Refusal.{Refusal}
use Rattle.rules.specs.declared.refusal.Refusal.TheVariants.{UnknownParty, EnrolledAlready, RosterFull, OutOfRange, NotCovered, OverCeiling, AccountFull, JournalFull, SlotPassed, PostedAlready, FundFull, NoSuchEvent, StruckAlready, ObjectedAlready, ObjectionsFull, NoOpenObjection, Unanswered, CalendarEnd, SheetShort, NoWeight, OutOfStep, WrongState, Unreadable}

-- the number that is printed
abbrev pub number_of : Refusal → ℕ
number_of UnknownParty = 1
number_of EnrolledAlready = 2
number_of RosterFull = 3
number_of OutOfRange = 4
number_of NotCovered = 5
number_of OverCeiling = 6
number_of AccountFull = 7
number_of JournalFull = 8
number_of SlotPassed = 9
number_of PostedAlready = 10
number_of FundFull = 11
number_of NoSuchEvent = 12
number_of StruckAlready = 13
number_of ObjectedAlready = 14
number_of ObjectionsFull = 15
number_of NoOpenObjection = 16
number_of Unanswered = 17
number_of CalendarEnd = 18
number_of SheetShort = 19
number_of NoWeight = 20
number_of OutOfStep = 21
number_of WrongState = 22
number_of Unreadable = 23
