-- Posting an event, and paying money into the fund. Assumes nothing.
use Rattle.std.specs.Prelude.{◌≡◌, ℕ, ◌+◌, Bool, true, false, not, ◌||◌, List, [], ◌∷◌, ◌++◌, length, Some, None, Ok, Err, Option, Result, nat_le, nat_lt, unsigned_abs}
use Rattle.rules.specs.declared.refusal.Refusal.{Refusal}
use Rattle.rules.specs.declared.refusal.Refusal.TheVariants.{UnknownParty, OutOfRange, NotCovered, AccountFull, JournalFull, PostedAlready, FundFull, OutOfStep}
use Rattle.rules.specs.Answers.{Answer, Rulebook}
use Rattle.rules.specs.Sums.{account, ◌plus◌}
use Rattle.rules.specs.Calendar.{slots}
use Rattle.settlement.specs.Registers.{has, found, changed}
use Rattle.records.specs.declared.event.Event.{Event}
use Rattle.records.specs.Asking.{facts}
use Rattle.records.specs.Words.{word, event_words}
use Rattle.records.specs.Journal.{this_month, posted}
use Rattle.billing.specs.Lines.{Line, with_sums, number}
use Rattle.settlement.specs.declared.posted.Posted.{Posted}
use Rattle.settlement.specs.Book.{Book, with_words, with_lines, with_fund, Room}
use Rattle.billing.specs.Bills.{sums_over}
use Rattle.settlement.specs.Checks.{Check, ◌when◌, Call, within, cut_short, lacks_room}

-- The rulebook is asked about the event of a party that has a line.
abbrev pub asked : Rulebook → ℕ → Event → Option Line → Answer
asked means m e None = Err UnknownParty
asked means m e (Some l) = means (facts l.party m e)

-- What it answers to an event, at the book's line of the event's party.
abbrev pub answer_to : Rulebook → Event → Book → Answer
answer_to means e b = asked means b.month e (found number e.party b.lines)

-- The rulebook refuses, and with which reason.
abbrev pub is_refused : Answer → Bool
is_refused (Ok _) = false
is_refused (Err _) = true

abbrev pub refusal_in : Answer → Refusal
refusal_in (Ok _) = NotCovered
refusal_in (Err r) = r

-- The account's sum over all lines would pass 40,000,000,000 fen.
abbrev pub overflows : Answer → Book → Bool
overflows (Ok c) b = nat_lt 40_000_000_000 (account c.0 (sums_over b.lines) + c.1)
overflows (Err _) b = false

-- An event that the month does not allow: a service above 31, a slot that is not in the month, a quantity beyond 4,000,000 either way.
unfoldable pub unpostable : ℕ → Event → Bool
unpostable m e = nat_lt 31 e.service || (nat_le (slots m) e.slot || (nat_lt 4_000_000 (unsigned_abs e.x) || nat_lt 4_000_000 (unsigned_abs e.y)))

-- Reasons against admitting an event, in the order in which they are looked for.
abbrev pub admission_checks : Rulebook → Room → Event → Book → List Check
admission_checks means room e b =
    (OutOfStep when cut_short room.journal b)
    ∷ (UnknownParty when not (has number e.party b.lines))
    ∷ (OutOfRange when unpostable b.month e)
    ∷ (PostedAlready when posted e (this_month b.words))
    ∷ (refusal_in (answer_to means e b) when is_refused (answer_to means e b))
    ∷ (AccountFull when overflows (answer_to means e b) b)
    ∷ []

-- Reasons against posting an event: last of all, the journal has no room for its words.
abbrev pub post_checks : Rulebook → Room → Event → Book → List Check
post_checks means room e b = admission_checks means room e b ++ ((JournalFull when lacks_room room.journal (length (event_words e)) b) ∷ [])

-- A line with the event's amount on its account's sum.
abbrev pub charge : Rulebook → ℕ → Event → Line → Line
charge means m e l = with_sums (l.sums plus means (facts l.party m e)) l

-- The party's line takes the amount, and the event's words go to the end of the journal.
abbrev pub post : Rulebook → Event → Book → Book
post means e b =
    with_words (b.used + length (event_words e)) (b.words ++ event_words e)
    (with_lines (changed number e.party (charge means b.month e) b.lines) b)

-- What posting answers: the event's place, which is after the used words, and the account and the amount that the rulebook means.
pub record Posts (means : Rulebook) (e : Event) (b : Book) (a : Posted) : Type 0 where
  pub at : a.place ≡ b.used
  pub meant : answer_to means e b ≡ Ok (a.account, a.amount)

-- Post an event.
abbrev pub Post : Rulebook → Room → Event → Book → Result Posted Refusal → Book → Type 0
Post means room e b = Call (post_checks means room e b) (Posts means e b) (post means e b) b

-- Reasons against paying into the fund: 1 to 500,000,000 fen may be paid, and it holds at most 40,000,000,000.
abbrev pub pay_in_checks : Room → ℕ → Book → List Check
pay_in_checks room amount b =
    (OutOfStep when cut_short room.journal b)
    ∷ (OutOfRange when not (within 1 500_000_000 amount))
    ∷ (FundFull when nat_lt 40_000_000_000 (b.fund + amount))
    ∷ (JournalFull when lacks_room room.journal 1 b)
    ∷ []

-- The fund takes the money, and the journal a word.
abbrev pub pay_in : ℕ → Book → Book
pay_in amount b = with_words (b.used + 1) (b.words ++ (word 5 amount ∷ [])) (with_fund (b.fund + amount) b)

-- Pay into the fund; the answer is the place of the journal's word.
abbrev pub PayIn : Room → ℕ → Book → Result ℕ Refusal → Book → Type 0
PayIn room amount b = Call (pay_in_checks room amount b) (λ place. place ≡ b.used) (pay_in amount b) b
