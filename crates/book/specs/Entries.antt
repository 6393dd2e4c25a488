-- What an entry of a trace says as a call and an answer of the program. Assumes nothing.
use Rattle.std.specs.Prelude.{Bool, true, false, List, [], length, Ok, Err, Result}
use Rattle.rules.specs.declared.refusal.Refusal.{Refusal}
use Rattle.rules.specs.declared.refusal.Refusal.TheVariants.{WrongState}
use Rattle.billing.specs.declared.bill.Bill.{Bill}
use Rattle.settlement.specs.Book.{State, no_book, in_month, published}
use Rattle.book.specs.declared.call.Call.{Call}
use Rattle.book.specs.declared.call.Call.TheVariants as call
use Rattle.book.specs.declared.answer.Reply.{Reply}
use Rattle.book.specs.declared.answer.Denial.{Denial}
use Rattle.book.specs.declared.answer.Denial.TheVariants.{Misplaced, Refused}
use Rattle.book.specs.declared.answer.Reply.TheVariants as reply
use Rattle.book.specs.Runs.{Entry, New, Enrol, Read, Post, PayIn, Publish, Object, Answer, WhatIf, AccountSums, Settle}

-- The call of an entry.
abbrev pub call_of : Entry → Call
call_of (New year month _) = call.New year month
call_of (Enrol n k c _) = call.Enrol n k c
call_of (Read r _) = call.Read r
call_of (Post e _) = call.Post e
call_of (PayIn amount _) = call.PayIn amount
call_of Publish = call.Publish
call_of (Object place _) = call.Object place
call_of (Answer place upheld _) = call.Answer place upheld
call_of (WhatIf place _) = call.WhatIf place
call_of (AccountSums party _) = call.AccountSums party
call_of (Settle _) = call.Settle

-- The answer that a result is given as.
abbrev pub given_as : {A : Type 0} → (A → Reply) → Result A Refusal → Result Reply Denial
given_as reply (Ok a) = Ok (reply a)
given_as reply (Err e) = Err (Refused e)

-- The refusal that a denial is printed as.
abbrev pub refusal_of : Denial → Refusal
refusal_of Misplaced = WrongState
refusal_of (Refused e) = e

-- The answer of an entry.
abbrev pub answer_of : Entry → Result Reply Denial
answer_of (New _ _ r) = given_as (λ _. reply.Done) r
answer_of (Enrol _ _ _ r) = given_as (λ _. reply.Done) r
answer_of (Read _ r) = given_as (λ _. reply.Done) r
answer_of (Post _ r) = given_as reply.Posted r
answer_of (PayIn _ r) = given_as reply.Placed r
answer_of Publish = Ok reply.Done
answer_of (Object _ r) = given_as (λ _. reply.Done) r
answer_of (Answer _ _ r) = given_as (λ _. reply.Done) r
answer_of (WhatIf _ r) = given_as reply.Sums r
answer_of (AccountSums _ r) = given_as reply.Sums r
answer_of (Settle r) = given_as (λ s. reply.Settled (record { rows = length s.rows; left = s.left })) r

-- The bills of an entry, which stand in the sheet after an accepted settling.
abbrev pub rows_of : Entry → List Bill
rows_of (New _ _ _) = []
rows_of (Enrol _ _ _ _) = []
rows_of (Read _ _) = []
rows_of (Post _ _) = []
rows_of (PayIn _ _) = []
rows_of Publish = []
rows_of (Object _ _) = []
rows_of (Answer _ _ _) = []
rows_of (WhatIf _ _) = []
rows_of (AccountSums _ _) = []
rows_of (Settle (Ok s)) = s.rows
rows_of (Settle (Err _)) = []

-- When a call may be made: before there is a book, in an open month, in a published one, or in either.
pub data Moment : Type 0 where
  before_all : Moment
  when_open : Moment
  when_published : Moment
  either : Moment

abbrev pub moment : Call → Moment
moment (call.New _ _) = before_all
moment (call.Enrol _ _ _) = when_open
moment (call.Read _) = when_open
moment (call.Post _) = when_open
moment (call.PayIn _) = when_open
moment call.Publish = when_open
moment (call.Object _) = when_published
moment (call.Answer _ _) = when_published
moment (call.WhatIf _) = when_published
moment (call.AccountSums _) = either
moment call.Settle = when_published

abbrev pub is_now : State → Moment → Bool
is_now no_book before_all = true
is_now no_book when_open = false
is_now no_book when_published = false
is_now no_book either = false
is_now (in_month _) before_all = false
is_now (in_month _) when_open = true
is_now (in_month _) when_published = false
is_now (in_month _) either = true
is_now (published _) before_all = false
is_now (published _) when_open = false
is_now (published _) when_published = true
is_now (published _) either = true

-- The state allows the call.
abbrev pub allows : State → Call → Bool
allows s c = is_now s (moment c)
