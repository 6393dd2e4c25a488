-- What a rule is asked and what it answers. Assumes nothing.
use Rattle.std.specs.Prelude.{ℕ, ◌≤◌, Ok, Err, Result}
use Rattle.rules.specs.declared.account.Account.{Account}
use Rattle.rules.specs.declared.account.Account.TheVariants.{Charges, First, Second, Third}
use Rattle.rules.specs.declared.facts.Facts.{Facts}
use Rattle.rules.specs.declared.refusal.Refusal.{Refusal}

-- where an account stands among a party's sums
abbrev pub place : Account → ℕ
place Charges = 0
place First = 1
place Second = 2
place Third = 3

-- an account and an amount in fen, or a refusal
abbrev pub Answer : Type 0
Answer = Result (Account × ℕ) Refusal

-- the meaning of a rulebook is one fixed table from facts to answers
abbrev pub Rulebook : Type 0
Rulebook = Facts → Answer

-- no amount is above the ceiling
abbrev pub Bounded : Answer → Type 0
Bounded (Ok c) = c.1 ≤ 1_000_000_000
Bounded (Err _) = Unit {0}
