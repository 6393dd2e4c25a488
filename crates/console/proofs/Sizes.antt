-- How long the text of an answer can be. Assumes nothing.
use Rattle.std.proofs.Common.{◌≡◌, ℕ, suc, ◌+◌, ◌*◌, ◌^◌, ◌<◌, ◌≤◌, true, List, [], ◌∷◌, ◌++◌, length, take, ℤ, pos, negsuc, nat_abs, is_some, Some, None, Ok, Err, codes, decimal, Option, Result, refl, arith}
use Rattle.std.specs.List.{AllByRecursion}
use Rattle.std.proofs.lemmas.List.{length-append}
use Rattle.std.proofs.lemmas.Fmt.{length-decimal-le}
use Rattle.rules.specs.Answers.{place}
use Rattle.rules.specs.Refusals.{number_of}
use Rattle.rules.specs.declared.account.Account.{Account}
use Rattle.rules.specs.declared.account.Account.TheVariants.{Charges, First, Second, Third}
use Rattle.rules.specs.declared.refusal.Refusal.{Refusal}
use Rattle.rules.specs.declared.refusal.Refusal.TheVariants.{UnknownParty, EnrolledAlready, RosterFull, OutOfRange, NotCovered, OverCeiling, AccountFull, JournalFull, SlotPassed, PostedAlready, FundFull, NoSuchEvent, StruckAlready, ObjectedAlready, ObjectionsFull, NoOpenObjection, Unanswered, CalendarEnd, SheetShort, NoWeight, OutOfStep, WrongState, Unreadable}
use Rattle.billing.specs.declared.bill.Bill.{Bill}
use Rattle.book.specs.declared.answer.Reply.{Reply}
use Rattle.book.specs.declared.answer.Denial.{Denial}
use Rattle.book.specs.Entries.{refusal_of}
use Rattle.book.specs.declared.answer.Reply.TheVariants.{Done, Placed, Posted, Sums, Settled}
use Rattle.console.specs.Answers.{field, net, sums, line, lines, text, Printed}

-- a row of a settling within the limits of the book
pub record RowFits (b : Bill) : Type 0 where
  pub number : b.number ≤ 1023
  pub charge : b.charge ≤ 40_000_000_000
  pub pay : b.pay ≤ 120_000_000_000
  pub first : b.first ≤ 40_000_000_000
  pub second : b.second ≤ 40_000_000_000
  pub third : b.third ≤ 40_000_000_000
  pub returned : b.returned ≤ 40_000_000_000
  pub net : nat_abs b.net ≤ 160_000_000_000

-- an answer of a book within its limits
abbrev pub AnswerFits : Result Reply Denial → List Bill → Type 0
AnswerFits (Ok Done) sheet = Unit {0}
AnswerFits (Ok (Placed at)) sheet = at ≤ 1_048_576
AnswerFits (Ok (Posted p)) sheet = (p.place ≤ 1_048_576) × (p.amount ≤ 1_000_000_000)
AnswerFits (Ok (Sums ns)) sheet = (length ns ≡ 4) × AllByRecursion (λ n. n ≤ 1_048_576_000_000_000) ns
AnswerFits (Ok (Settled t)) sheet = (t.rows ≤ 64) × (t.left ≤ 40_000_000_000) × (length (take t.rows sheet) ≤ 64) × AllByRecursion RowFits (take t.rows sheet)
AnswerFits (Err e) sheet = Unit {0}

joined_long : (xs ys : List ℕ) (m n : ℕ) → length xs ≤ m → length ys ≤ n → length (xs ++ ys) ≤ m + n
joined_long xs ys m n h k = omega (arith, length-append xs ys)

field_long : (k n : ℕ) → 0 < k → n < 10 ^ k → n < 2 ^ 64 → length (field n) ≤ k + 1
field_long k n p h w = omega (arith, length-decimal-le k n p h w)

net_long : (z : ℤ) → nat_abs z ≤ 160_000_000_000 → length (net z) ≤ 14
net_long (pos n) h =
    let small : n < 1_000_000_000_000 = omega arith in
    let word : n < 18_446_744_073_709_551_616 = omega arith in
    omega (arith, length-decimal-le 12 n (omega arith) small word)
net_long (negsuc n) h =
    let small : suc n < 1_000_000_000_000 = omega arith in
    let word : suc n < 18_446_744_073_709_551_616 = omega arith in
    omega (arith, length-decimal-le 12 (suc n) (omega arith) small word)

eleven : (n : ℕ) → n ≤ 40_000_000_000 → length (field n) ≤ 12
eleven n h =
    let small : n < 100_000_000_000 = omega arith in
    let word : n < 18_446_744_073_709_551_616 = omega arith in
    field_long 11 n (omega arith) small word

line_long : (b : Bill) → RowFits b → length (line b) ≤ 92
line_long b f =
    let small : b.number < 10_000 = omega (arith, f.number) in
    let word : b.number < 18_446_744_073_709_551_616 = omega (arith, f.number) in
    let pay-small : b.pay < 1_000_000_000_000 = omega (arith, f.pay) in
    let pay-word : b.pay < 18_446_744_073_709_551_616 = omega (arith, f.pay) in
    let last = net_long b.net f.net in
    joined_long (decimal b.number) _ 4 88 (length-decimal-le 4 b.number (omega arith) small word)
    (joined_long (field b.charge) _ 12 76 (eleven b.charge f.charge)
    (joined_long (field b.pay) _ 13 63 (field_long 12 b.pay (omega arith) pay-small pay-word)
    (joined_long (field b.first) _ 12 51 (eleven b.first f.first)
    (joined_long (field b.second) _ 12 39 (eleven b.second f.second)
    (joined_long (field b.third) _ 12 27 (eleven b.third f.third)
    (joined_long (field b.returned) _ 12 15 (eleven b.returned f.returned)
    (joined_long (net b.net) (10 ∷ []) 14 1 last (omega arith))))))))

lines_long : (bs : List Bill) → AllByRecursion RowFits bs → length (lines bs) ≤ 92 * length bs
lines_long [] a = omega arith
lines_long (b ∷ bs) a = omega (arith, length-append (line b) (lines bs), line_long b a.0, lines_long bs a.1)

sums_long : (ns : List ℕ) → AllByRecursion (λ n. n ≤ 1_048_576_000_000_000) ns → length (sums ns) ≤ 17 * length ns
sums_long [] a = omega arith
sums_long (n ∷ ns) a =
    let small : n < 10_000_000_000_000_000 = omega (arith, a.0) in
    let word : n < 18_446_744_073_709_551_616 = omega (arith, a.0) in
    omega (arith, length-append (field n) (sums ns), field_long 16 n (omega arith) small word, sums_long ns a.1)

small_field : (n : ℕ) → n ≤ 1_000_000_000 → length (field n) ≤ 11
small_field n h =
    let small : n < 10_000_000_000 = omega arith in
    let word : n < 18_446_744_073_709_551_616 = omega arith in
    field_long 10 n (omega arith) small word

place_small : (a : Account) → place a ≤ 3
place_small Charges = omega arith
place_small First = omega arith
place_small Second = omega arith
place_small Third = omega arith

number_small : (e : Refusal) → number_of e ≤ 23
number_small UnknownParty = omega arith
number_small EnrolledAlready = omega arith
number_small RosterFull = omega arith
number_small OutOfRange = omega arith
number_small NotCovered = omega arith
number_small OverCeiling = omega arith
number_small AccountFull = omega arith
number_small JournalFull = omega arith
number_small SlotPassed = omega arith
number_small PostedAlready = omega arith
number_small FundFull = omega arith
number_small NoSuchEvent = omega arith
number_small StruckAlready = omega arith
number_small ObjectedAlready = omega arith
number_small ObjectionsFull = omega arith
number_small NoOpenObjection = omega arith
number_small Unanswered = omega arith
number_small CalendarEnd = omega arith
number_small SheetShort = omega arith
number_small NoWeight = omega arith
number_small OutOfStep = omega arith
number_small WrongState = omega arith
number_small Unreadable = omega arith

-- a word, and what follows it
said : (word rest : List ℕ) (n : ℕ) → length word ≤ 2 → length rest ≤ n → n ≤ 8190 → length (word ++ rest) ≤ 8192
said word rest n h k few = omega (arith, length-append word rest)

ended : (n : ℕ) → n ≤ 1_000_000_000 → length (field n ++ (10 ∷ [])) ≤ 12
ended n h = joined_long (field n) (10 ∷ []) 11 1 (small_field n h) (omega arith)

-- no answer of a book within its limits is longer than a page
pub text_fits : (a : Result Reply Denial) (sheet : List Bill) → AnswerFits a sheet → length (text a sheet) ≤ 8192
text_fits (Ok Done) sheet f = omega arith
text_fits (Ok (Placed at)) sheet f = said (codes "ok") (field at ++ (10 ∷ [])) 12 (omega arith) (ended at (omega arith)) (omega arith)
text_fits (Ok (Posted p)) sheet f =
    let account = field (place p.account) in
    let amount = field p.amount ++ (10 ∷ []) in
    said (codes "ok") (field p.place ++ (account ++ amount)) 34 (omega arith)
    (joined_long (field p.place) (account ++ amount) 11 23 (small_field p.place (omega (arith, f.0)))
    (joined_long account amount 11 12 (small_field (place p.account) (omega (arith, place_small p.account))) (ended p.amount f.1))) (omega arith)
text_fits (Ok (Sums ns)) sheet f =
    said (codes "ok") (sums ns ++ (10 ∷ [])) 69 (omega arith) (joined_long (sums ns) (10 ∷ []) 68 1 (omega (arith, sums_long ns f.1, f.0)) (omega arith)) (omega arith)
text_fits (Ok (Settled t)) sheet f =
    let rows = lines (take t.rows sheet) in
    let left = field t.left in
    said (codes "ok") (field t.rows ++ (left ++ ((10 ∷ []) ++ rows))) 5912 (omega arith)
    (joined_long (field t.rows) (left ++ ((10 ∷ []) ++ rows)) 11 5901 (small_field t.rows (omega (arith, f.0)))
    (joined_long left ((10 ∷ []) ++ rows) 12 5889 (eleven t.left f.1)
    (joined_long (10 ∷ []) rows 1 5888 (omega arith) (omega (arith, lines_long (take t.rows sheet) f.3, f.2))))) (omega arith)
text_fits (Err d) sheet f =
    let e = refusal_of d in
    said (codes "no") (field (number_of e) ++ (10 ∷ [])) 12 (omega arith) (ended (number_of e) (omega (arith, number_small e))) (omega arith)

pub has_room : (s page page' : List ℕ) (long : Option ℕ) → Printed s page long page' → length s ≤ 8192 → 8192 ≤ length page → is_some long ≡ true
has_room s page page' None p h e = absurd (omega arith)
has_room s page page' (Some n) p h e = refl
