-- What holds of every run, whatever the rulebook means within its limits. Assumes nothing.
use Rattle.std.specs.Prelude.{◌≡◌, ℕ, ◌+◌, ◌<◌, ◌≤◌, List, ◌∷◌, ◌++◌, map, length, ℤ, pos, ◌-ℤ◌, Ok}
use Rattle.std.specs.List.{ContainsAt}
use Rattle.std.specs.List.Sorted.{IsPermutation}
use Rattle.rules.specs.Answers.{Rulebook, Bounded}
use Rattle.rules.specs.declared.facts.Facts.{Facts}
use Rattle.rules.specs.declared.sums.Sums.{Sums}
use Rattle.rules.specs.Sums.{together, listed}
use Rattle.register.specs.Numbered.{Rising}
use Rattle.records.specs.declared.enrolment.Enrolment.{Enrolment}
use Rattle.settlement.specs.Registers.{by_number}
use Rattle.records.specs.declared.event.Event.{Event}
use Rattle.records.specs.Asking.{facts}
use Rattle.settlement.specs.Book.{State, fund_in, words_in}
use Rattle.book.specs.Limits.{StateFits}
use Rattle.billing.specs.Sharing.{Fair}
use Rattle.billing.specs.Weights.{Weights, weights_of}
use Rattle.billing.specs.declared.bill.Bill.{Bill}
use Rattle.settlement.specs.Settling.{Reckoning}
use Rattle.billing.specs.Bills.{pay_of, net_sum}
use Rattle.settlement.specs.declared.posted.Posted.{Posted}
use Rattle.book.specs.Runs.{Post, PayIn, WhatIf, AccountSums, Settle, Trace, Run}
use Rattle.book.specs.History.{month, enrolments, readings, without, standing, paid_in, money, bills, journal, Placed, worth_of, magnitude, running_slots, statement}

-- The law of a rule: no amount passes the ceiling.
abbrev pub WithinLimits : Rulebook → Type 0
WithinLimits means = (f : Facts) → Bounded (means f)

-- What a party's standing events of the month are worth, by account.
abbrev pub sums_of : Rulebook → Trace → Enrolment → Sums
sums_of means t p = worth_of means (month t) p (standing t)

-- A party's weights, by its readings of the month.
abbrev pub weights : Trace → Enrolment → Weights
weights t p = weights_of (month t) p (magnitude p (readings t)) (running_slots p (readings t))

-- What the fund leaves of the three pools.
pub record Rest : Type 0 where
  pub first : ℕ
  pub second : ℕ
  pub third : ℕ

-- The fund pays pools 1, 2 and 3 in that order while it lasts: what is left of it and of the pools makes up for what they were,
-- and where something is left of a pool, no later pool has been paid and no money is left.
pub record FundPays (fund : ℕ) (pools : Sums) (rest : Rest) (left : ℕ) : Type 0 where
  pub within_first : rest.first ≤ pools.first
  pub within_second : rest.second ≤ pools.second
  pub within_third : rest.third ≤ pools.third
  pub whole : fund + rest.first + rest.second + rest.third ≡ left + pools.first + pools.second + pools.third
  pub first_before_second : 0 < rest.first → rest.second ≡ pools.second
  pub second_before_third : 0 < rest.first + rest.second → rest.third ≡ pools.third
  pub third_before_left : 0 < rest.first + rest.second + rest.third → left ≡ 0

-- A bill's net is its charge and its shares, less its pay and its return.
abbrev pub net_due : Bill → ℤ
net_due b = pos (b.charge + b.first + b.second + b.third) -ℤ pos (b.pay + b.returned)

-- A settling, after the calls of a trace.
pub record LawfulSettling (means : Rulebook) (t : Trace) (s : Reckoning) : Type 0 where
  -- there is one row for each party enrolled, in rising number
  pub parties : List Enrolment
  pub enrolled : IsPermutation (enrolments t) parties
  pub rising : Rising by_number parties
  pub numbers : map (λ b. b.number) s.rows ≡ map by_number parties
  -- charge and pay are what the rulebook means for the party's standing events
  pub charges : map (λ b. b.charge) s.rows ≡ map (λ p. (sums_of means t p).charges) parties
  pub pays : map (λ b. b.pay) s.rows ≡ map (λ p. pay_of (sums_of means t p)) parties
  -- the fund pays the pools; what it leaves of each is shared fairly by weight, and so are the charges
  pub rest : Rest
  pub paid : FundPays (money t) (together (map (sums_of means t) parties)) rest s.left
  pub first : Fair rest.first (map (λ p. (weights t p).first) parties) (map (λ b. b.first) s.rows)
  pub second : Fair rest.second (map (λ p. (weights t p).second) parties) (map (λ b. b.second) s.rows)
  pub third : Fair rest.third (map (λ p. (weights t p).third) parties) (map (λ b. b.third) s.rows)
  pub returned : Fair (together (map (sums_of means t) parties)).charges (map (λ p. (weights t p).running) parties) (map (λ b. b.returned) s.rows)
  pub nets : map (λ b. b.net) s.rows ≡ map net_due s.rows
  -- all rows together are one function of the month's enrolments, readings and standing events, the fund and the month
  pub determined : s.rows ≡ statement means (month t) (enrolments t) (readings t) (standing t) (money t)

-- A posting, after the calls of a trace: the event takes the next place of the journal, and the answer is what the rulebook means
-- for it, at the party enrolled under its number.
pub record LawfulPosting (means : Rulebook) (t : Trace) (e : Event) (a : Posted) : Type 0 where
  pub next_place : a.place ≡ length (journal t)
  pub party : Enrolment
  pub enrolled : ContainsAt (enrolments t) party
  pub named : party.number ≡ e.party
  pub meant : means (facts party (month t) e) ≡ Ok (a.account, a.amount)
  pub amount_within : a.amount ≤ 1_000_000_000

-- Account sums, asked after the calls of a trace: what the rulebook means for these events of the party enrolled under the number.
pub record LawfulSums (means : Rulebook) (t : Trace) (n : ℕ) (es : List Placed) (s : List ℕ) : Type 0 where
  pub party : Enrolment
  pub enrolled : ContainsAt (enrolments t) party
  pub named : party.number ≡ n
  pub sums_are : s ≡ listed (worth_of means (month t) party es)

-- The same as if the standing event at a place were struck.
pub record LawfulWhatIf (means : Rulebook) (t : Trace) (place : ℕ) (s : List ℕ) : Type 0 where
  pub event : Placed
  pub accepted : ContainsAt (standing t) event
  pub there : event.place ≡ place
  pub sums : LawfulSums means t event.event.party (without place (standing t)) s

-- A trace that leads to a state is lawful.
pub record Lawful (means : Rulebook) (t : Trace) (s : State) : Type 0 where
  -- the nets of all bills add up to the money left less all the money paid in
  pub balance : net_sum (bills t) ≡ pos (fund_in s) -ℤ pos (paid_in t)
  pub at_hand : fund_in s ≡ money t
  -- the journal's used words are the events, payments and month ends that were accepted, in their order
  pub written : words_in s ≡ journal t
  -- each accepted call is lawful after the calls before it
  pub settlings : (later earlier : Trace) (r : Reckoning) → t ≡ later ++ (Settle (Ok r) ∷ earlier) → LawfulSettling means earlier r
  pub postings : (later earlier : Trace) (e : Event) (a : Posted)
      → t ≡ later ++ (Post e (Ok a) ∷ earlier) → LawfulPosting means earlier e a
  pub payments : (later earlier : Trace) (amount place : ℕ) → t ≡ later ++ (PayIn amount (Ok place) ∷ earlier) → place ≡ length (journal earlier)
  pub account_sums : (later earlier : Trace) (n : ℕ) (r : List ℕ) → t ≡ later ++ (AccountSums n (Ok r) ∷ earlier) → LawfulSums means earlier n (standing earlier) r
  pub what_ifs : (later earlier : Trace) (place : ℕ) (r : List ℕ) → t ≡ later ++ (WhatIf place (Ok r) ∷ earlier) → LawfulWhatIf means earlier place r

-- The law of the book under a rulebook: every run is lawful.
abbrev pub RunsLawful : Rulebook → Type 0
RunsLawful means = (t : Trace) (s : State) → Run means t s → Lawful means t s

-- Every run keeps every figure of the book within its limits.
abbrev pub RunsWithinLimits : Rulebook → Type 0
RunsWithinLimits means = (t : Trace) (s : State) → Run means t s → StateFits s
