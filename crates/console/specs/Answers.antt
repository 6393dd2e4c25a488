-- The text of an answer. Assumes nothing.
use Rattle.std.specs.Prelude.{◌≡◌, ℕ, ◌<◌, ◌≤◌, List, [], ◌∷◌, ◌++◌, length, take, drop, ℤ, Some, None, Ok, Err, codes, decimal, Option, Result}
use Rattle.std.specs.List.{flat_map}
use Rattle.std.specs.Fmt.{signed_decimal}
use Rattle.rules.specs.Answers.{place}
use Rattle.rules.specs.Refusals.{number_of}
use Rattle.billing.specs.declared.bill.Bill.{Bill}
use Rattle.book.specs.declared.answer.Reply.{Reply}
use Rattle.book.specs.declared.answer.Denial.{Denial}
use Rattle.book.specs.Entries.{refusal_of}
use Rattle.book.specs.declared.answer.Reply.TheVariants.{Done, Placed, Posted, Sums, Settled}

-- a number after a space
abbrev pub field : ℕ → List ℕ
field n = 32 ∷ decimal n

-- a number after a space, with a minus where it is negative
abbrev pub net : ℤ → List ℕ
net z = 32 ∷ signed_decimal z

-- numbers, each after a space
abbrev pub sums : List ℕ → List ℕ
sums ns = flat_map field ns

-- the eight numbers of a bill on a line: number, charge, pay, the three shares, return, net
abbrev pub line : Bill → List ℕ
line b =
    decimal b.number ++ (field b.charge ++ (field b.pay ++ (field b.first ++ (field b.second
    ++ (field b.third ++ (field b.returned ++ (net b.net ++ (10 ∷ []))))))))

-- a line for each bill
abbrev pub lines : List Bill → List ℕ
lines bs = flat_map line bs

-- the text of an answer, with the sheet that the bills of a settling stand in
abbrev pub text : Result Reply Denial → List Bill → List ℕ
text (Ok Done) sheet = codes "ok\n"
text (Ok (Placed at)) sheet = codes "ok" ++ (field at ++ (10 ∷ []))
text (Ok (Posted p)) sheet = codes "ok" ++ (field p.place ++ (field (place p.account) ++ (field p.amount ++ (10 ∷ []))))
text (Ok (Sums ns)) sheet = codes "ok" ++ (sums ns ++ (10 ∷ []))
text (Ok (Settled t)) sheet = codes "ok" ++ (field t.rows ++ (field t.left ++ ((10 ∷ []) ++ lines (take t.rows sheet))))
text (Err denial) sheet = codes "no" ++ (field (number_of (refusal_of denial)) ++ (10 ∷ []))

-- a text at the front of a page, if it fits, with the rest of the page as it was
abbrev pub Printed : List ℕ → List ℕ → Option ℕ → List ℕ → Type 0
Printed s before None after = length before < length s
Printed s before (Some n) after = (n ≡ length s) × (after ≡ s ++ drop n before) × (n ≤ length after)
