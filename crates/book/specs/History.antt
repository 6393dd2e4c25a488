-- What was accepted in a trace: parties, readings, events, money, bills, and the journal. Assumes nothing.
use Rattle.std.specs.Prelude.{ℕ, ◌+◌, true, false, cond, List, [], ◌∷◌, ◌++◌, map, Some, None, Ok, Err, Option, ◌==◌, unsigned_abs}
use Rattle.rules.specs.declared.kind.Kind.{Kind}
use Rattle.rules.specs.Kinds.{kind_of}
use Rattle.rules.specs.Answers.{Rulebook}
use Rattle.rules.specs.declared.sums.Sums.{Sums}
use Rattle.records.specs.declared.enrolment.Enrolment.{Enrolment}
use Rattle.billing.specs.declared.reading.Reading.{Reading}
use Rattle.billing.specs.Lines.{Line, runs}
use Rattle.billing.specs.Bills.{bills_of}
use Rattle.settlement.specs.Registers.{by_number, entered}
use Rattle.records.specs.declared.event.Event.{Event}
use Rattle.records.specs.Asking.{worth}
use Rattle.records.specs.Words.{word, event_words}
use Rattle.records.specs.Journal.{struck}
use Rattle.billing.specs.declared.bill.Bill.{Bill}
use Rattle.settlement.specs.Settling.{Reckoning}
use Rattle.rules.specs.Calendar.{count}
use Rattle.book.specs.Runs.{Entry, New, Enrol, Read, Post, PayIn, Publish, Object, Answer, WhatIf, AccountSums, Settle, Trace}

-- An event that was accepted, with its place in the journal.
pub record Placed : Type 0 where
  pub place : ℕ
  pub event : Event

-- What an entry brought about. A call that was refused, or only looked at the book, brought about nothing.
pub data News : Type 0 where
  opened : ℕ → News
  enrolled : Enrolment → News
  measured : Reading → News
  posted : Placed → News
  paid : ℕ → News
  upheld : ℕ → News
  settled : Reckoning → News
  none : News

-- The party of a number and a capacity is enrolled, where the kind is known.
abbrev pub enrolled_as : (number : ℕ) → Option Kind → (capacity : ℕ) → News
enrolled_as n None c = none
enrolled_as n (Some k) c = enrolled (record { number = n; kind = k; capacity = c })

-- The news of an entry.
abbrev pub news : Entry → News
news (New year month (Ok _)) = opened (count year month)
news (New year month (Err _)) = none
news (Enrol n k c (Ok _)) = enrolled_as n (kind_of k) c
news (Enrol n k c (Err _)) = none
news (Read r (Ok _)) = measured r
news (Read r (Err _)) = none
news (Post e (Ok a)) = posted (record { place = a.place; event = e })
news (Post e (Err _)) = none
news (PayIn amount (Ok _)) = paid amount
news (PayIn amount (Err _)) = none
news Publish = none
news (Object place r) = none
news (Answer place true (Ok _)) = upheld place
news (Answer place true (Err _)) = none
news (Answer place false (Ok _)) = none
news (Answer place false (Err _)) = none
news (WhatIf place r) = none
news (AccountSums p r) = none
news (Settle (Ok s)) = settled s
news (Settle (Err _)) = none

-- The month by its count: the one that the book was opened with, and one more for each settling.
abbrev pub month_with : News → ℕ → ℕ
month_with (opened m) _ = m
month_with (enrolled _) n = n
month_with (measured _) n = n
month_with (posted _) n = n
month_with (paid _) n = n
month_with (upheld _) n = n
month_with (settled _) n = n + 1
month_with none n = n

abbrev pub month : Trace → ℕ
month [] = 0
month (e ∷ t) = month_with (news e) (month t)

-- The parties enrolled, the last one first.
abbrev pub enrolments_with : News → List Enrolment → List Enrolment
enrolments_with (opened _) ps = ps
enrolments_with (enrolled p) ps = p ∷ ps
enrolments_with (measured _) ps = ps
enrolments_with (posted _) ps = ps
enrolments_with (paid _) ps = ps
enrolments_with (upheld _) ps = ps
enrolments_with (settled _) ps = ps
enrolments_with none ps = ps

abbrev pub enrolments : Trace → List Enrolment
enrolments [] = []
enrolments (e ∷ t) = enrolments_with (news e) (enrolments t)

-- The readings of the month, the last one first.
abbrev pub readings_with : News → List Reading → List Reading
readings_with (opened _) rs = rs
readings_with (enrolled _) rs = rs
readings_with (measured r) rs = r ∷ rs
readings_with (posted _) rs = rs
readings_with (paid _) rs = rs
readings_with (upheld _) rs = rs
readings_with (settled _) _ = []
readings_with none rs = rs

abbrev pub readings : Trace → List Reading
readings [] = []
readings (e ∷ t) = readings_with (news e) (readings t)

-- The events without the one at a place.
abbrev pub without : ℕ → List Placed → List Placed
without place [] = []
without place (e ∷ es) = cond (e.place == place) (without place es) (e ∷ without place es)

-- The events of the month that were accepted, and not struck by an upheld objection that names their place; the last one first.
abbrev pub standing_with : News → List Placed → List Placed
standing_with (opened _) es = es
standing_with (enrolled _) es = es
standing_with (measured _) es = es
standing_with (posted e) es = e ∷ es
standing_with (paid _) es = es
standing_with (upheld place) es = without place es
standing_with (settled _) _ = []
standing_with none es = es

abbrev pub standing : Trace → List Placed
standing [] = []
standing (e ∷ t) = standing_with (news e) (standing t)

-- All the money paid in.
abbrev pub paid_in_with : News → ℕ → ℕ
paid_in_with (opened _) n = n
paid_in_with (enrolled _) n = n
paid_in_with (measured _) n = n
paid_in_with (posted _) n = n
paid_in_with (paid amount) n = n + amount
paid_in_with (upheld _) n = n
paid_in_with (settled _) n = n
paid_in_with none n = n

abbrev pub paid_in : Trace → ℕ
paid_in [] = 0
paid_in (e ∷ t) = paid_in_with (news e) (paid_in t)

-- The money at hand: what the last settling left, and what was paid in since.
abbrev pub money_with : News → ℕ → ℕ
money_with (opened _) n = n
money_with (enrolled _) n = n
money_with (measured _) n = n
money_with (posted _) n = n
money_with (paid amount) n = n + amount
money_with (upheld _) n = n
money_with (settled s) _ = s.left
money_with none n = n

abbrev pub money : Trace → ℕ
money [] = 0
money (e ∷ t) = money_with (news e) (money t)

-- All bills.
abbrev pub bills_by : News → List Bill → List Bill
bills_by (opened _) bs = bs
bills_by (enrolled _) bs = bs
bills_by (measured _) bs = bs
bills_by (posted _) bs = bs
bills_by (paid _) bs = bs
bills_by (upheld _) bs = bs
bills_by (settled s) bs = s.rows ++ bs
bills_by none bs = bs

abbrev pub bills : Trace → List Bill
bills [] = []
bills (e ∷ t) = bills_by (news e) (bills t)

-- The journal's words: an event adds three, a payment and a month's end one each; an upheld objection strikes the event at its place.
abbrev pub journal_with : News → ℕ → List ℕ → List ℕ
journal_with (opened _) _ ws = ws
journal_with (enrolled _) _ ws = ws
journal_with (measured _) _ ws = ws
journal_with (posted e) _ ws = ws ++ event_words e.event
journal_with (paid amount) _ ws = ws ++ (word 5 amount ∷ [])
journal_with (upheld place) _ ws = struck place ws
journal_with (settled _) m ws = ws ++ (word 6 m ∷ [])
journal_with none _ ws = ws

abbrev pub journal : Trace → List ℕ
journal [] = []
journal (e ∷ t) = journal_with (news e) (month t) (journal t)

-- What the rulebook means for a party's events among these, together.
abbrev pub worth_of : Rulebook → ℕ → Enrolment → List Placed → Sums
worth_of means m p es = worth means m p (map (λ e. e.event) es)

-- The magnitudes of a party's readings together.
abbrev pub magnitude : Enrolment → List Reading → ℕ
magnitude p [] = 0
magnitude p (r ∷ rs) = cond (r.party == p.number) (magnitude p rs + unsigned_abs r.power) (magnitude p rs)

-- How many of a party's readings were running.
abbrev pub running_slots : Enrolment → List Reading → ℕ
running_slots p [] = 0
running_slots p (r ∷ rs) = cond (r.party == p.number) (running_slots p rs + runs p r.power) (running_slots p rs)

-- The slots that a party's readings have passed: the last reading's slot + 1, or 0.
abbrev pub passed : Enrolment → List Reading → ℕ
passed p [] = 0
passed p (r ∷ rs) = cond (r.party == p.number) (r.slot + 1) (passed p rs)

-- A party's line, as the month's events and readings make it.
abbrev pub line_of : Rulebook → ℕ → List Reading → List Placed → Enrolment → Line
line_of means m rs es p = record {
  party = p;
  sums = worth_of means m p es;
  passed = passed p rs;
  magnitude = magnitude p rs;
  running = running_slots p rs;
}

-- The parties in rising number.
abbrev pub sorted : List Enrolment → List Enrolment
sorted [] = []
sorted (p ∷ ps) = entered by_number p (sorted ps)

-- The bills of a month, from its enrolments, readings and standing events, and the money in the fund.
abbrev pub statement : Rulebook → ℕ → List Enrolment → List Reading → List Placed → ℕ → List Bill
statement means m ps rs es fund = bills_of m (map (line_of means m rs es) (sorted ps)) fund
