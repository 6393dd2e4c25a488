-- Every run is lawful, by induction over the run. Assumes nothing.
use Rattle.std.proofs.Common.{◌≡◌, ℕ, suc, ◌≤◌, Bool, true, false, cond, eqb, ◌⊎◌, List, [], ◌∷◌, ◌++◌, map, length, get_or, ℤ, pos, ◌+ℤ◌, ◌-ℤ◌, is_some, Some, None, Ok, Err, Option, Result, sym, refl, ap, ◌∙◌, subst, ap₂, subst₂, inl, inr, arith}
use Rattle.std.specs.List.{ContainsAt}
use Rattle.std.proofs.lemmas.List.Sorted.{IsPermutation-sym}
use Rattle.std.proofs.ByRecursion.{has_shuffled}
use Rattle.std.proofs.lemmas.Int.{ints}
use Rattle.rules.specs.declared.refusal.Refusal.{Refusal}
use Rattle.rules.specs.declared.refusal.Refusal.TheVariants.{UnknownParty}
use Rattle.rules.specs.Answers.{Rulebook, Bounded}
use Rattle.rules.specs.declared.sums.Sums.{Sums}
use Rattle.rules.specs.Sums.{together, listed}
use Rattle.rules.specs.Kinds.{kind_of}
use Rattle.rules.specs.declared.kind.Kind.{Kind}
use Rattle.rules.specs.declared.account.Account.{Account}
use Rattle.records.specs.declared.enrolment.Enrolment.{Enrolment}
use Rattle.settlement.specs.Registers.{found}
use Rattle.billing.specs.declared.reading.Reading.{Reading}
use Rattle.records.specs.declared.event.Event.{Event}
use Rattle.records.specs.Asking.{facts}
use Rattle.register.specs.Numbered.{Rising}
use Rattle.records.specs.Words.{kind}
use Rattle.records.specs.Journal.{event_at, month_start, this_month, struck}
use Rattle.settlement.specs.Asking.{sums_in, ReadsSums}
use Rattle.settlement.specs.Checks.{first_of}
use Rattle.settlement.specs.Enrolling.{enrol_checks, enrol_as}
use Rattle.std.proofs.lemmas.Bool.{and_parts, not-false, both_ways}
use Rattle.settlement.specs.Book.{Room, Book, new_book, State, no_book, in_month, published, fund_in, words_in}
use Rattle.billing.specs.Lines.{Line, number}
use Rattle.billing.specs.Sharing.{Fair}
use Rattle.billing.specs.Weights.{Weights}
use Rattle.billing.specs.declared.bill.Bill.{Bill}
use Rattle.settlement.specs.Settling.{Reckoning, Settles}
use Rattle.billing.specs.Bills.{dues, dues_of, lacks_weight, bills_of, pay_of, line_weights, net_sum}
use Rattle.settlement.specs.declared.posted.Posted.{Posted}
use Rattle.settlement.specs.Posting.{asked, answer_to}
use Rattle.book.specs.Runs.{Entry, Post, PayIn, WhatIf, AccountSums, Settle, Trace, new, not_new, enrol, read, post, pay_in, account_sums, publish, object, answer, what_if, account_sums_then, settle, Run, start, next}
use Rattle.book.specs.History.{Placed, enrolled_as, month_with, enrolments_with, readings_with, standing_with, journal_with, money_with, bills_by, paid_in_with, month, enrolments, readings, without, standing, paid_in, money, bills, journal, worth_of, magnitude, running_slots, passed, line_of, sorted}
use Rattle.book.specs.Limits.{BookFits, StateFits}
use Rattle.book.specs.Laws.{WithinLimits, sums_of, weights, FundPays, net_due, LawfulSettling, LawfulPosting, LawfulSums, LawfulWhatIf, RunsWithinLimits, RunsLawful}
use Rattle.book.specs.Serving.{Steps, Served, Carries}
use Rattle.book.specs.declared.call.Call.{Call}
use Rattle.book.specs.declared.answer.Reply.{Reply}
use Rattle.book.specs.declared.answer.Denial.{Denial}
use Rattle.book.proofs.Rosters.{rising_drawn, shuffled_sorted, found_drawn}
use Rattle.book.proofs.Limiting.{sums_each, lines_fit}
use Rattle.book.proofs.Fitting.{Held, held_new, held_enrol, held_read, held_post, held_pay_in, held_object, held_dismiss, held_uphold, held_settle}
use Rattle.book.proofs.Strikes.{event_with}
use Rattle.book.proofs.Scanning.{scanned_strike, by_word, by_word_is}
use Rattle.book.proofs.Wording.{placed_at}
use Rattle.book.proofs.Columns.{column_number, column_charge, column_pay, column_net, closed}
use Rattle.book.proofs.Keeping.{clear, Inv, map_map, weighed, stood, fits_post, kept_enrol, kept_read, kept_post, kept_pay_in, kept_object, kept_dismiss, kept_uphold, kept_settle}

abbrev Holds : Rulebook → Trace → Book → Type 0
Holds means t b = Inv means (month t) (sorted (enrolments t)) (readings t) (standing t) (journal t) (money t) b

-- what the state and the history have in common
abbrev Fine : Rulebook → Trace → State → Type 0
Fine means t no_book =
    (enrolments t ≡ []) × (readings t ≡ []) × (standing t ≡ []) × (journal t ≡ []) × (money t ≡ 0)
Fine means t (in_month b) = Holds means t b
Fine means t (published b) = Holds means t b

fresh : (means : Rulebook) (m : ℕ) → Inv means m [] [] [] [] 0 (new_book m)
fresh means m = record {
  month_is = refl;
  used_is = refl;
  words_are = refl;
  lines_are = refl;
  fund_is = refl;
  rising = tt;
  numbered = λ k h. absurd (let z : ◌≡◌ {A = ℕ} 0 1 = cc in omega arith);
  clean = λ p h. refl;
  located = λ place from k. absurd (omega arith);
  falling = tt;
  scanned = λ p. refl;
}

fresh_at : (means : Rulebook) (m : ℕ) (ps : List Enrolment) (rs : List Reading) (es : List Placed) (ws : List ℕ) (n : ℕ) →
    ps ≡ [] → rs ≡ [] → es ≡ [] → ws ≡ [] → n ≡ 0 → Inv means m ps rs es ws n (new_book m)
fresh_at means m ps rs es ws n a b c d e =
    subst (λ x. Inv means m x rs es ws n (new_book m)) (sym a)
    (subst (λ x. Inv means m [] x es ws n (new_book m)) (sym b)
    (subst (λ x. Inv means m [] [] x ws n (new_book m)) (sym c)
    (subst (λ x. Inv means m [] [] [] x n (new_book m)) (sym d)
    (subst (λ x. Inv means m [] [] [] [] x (new_book m)) (sym e) (fresh means m)))))

-- an accepted enrolment is of a known kind
kept_enrol_as : (means : Rulebook) (t : Trace) (b b' : Book) (room : Room) (n k c : ℕ) → Holds means t b → first_of (enrol_checks room n k c b) ≡ None →
    (o : Option Kind) → is_some o ≡ true → b' ≡ enrol_as n o c b →
    Inv means (month_with (enrolled_as n o c) (month t)) (sorted (enrolments_with (enrolled_as n o c) (enrolments t))) (readings_with (enrolled_as n o c) (readings t))
    (standing_with (enrolled_as n o c) (standing t)) (journal_with (enrolled_as n o c) (month t) (journal t)) (money_with (enrolled_as n o c) (money t)) b'
kept_enrol_as means t b b' room n k c i free None some leaves = absurd (both_ways false refl some)
kept_enrol_as means t b b' room n k c i free (Some j) some leaves =
    subst (Inv means _ _ _ _ _ _) (sym leaves) (kept_enrol means _ _ _ _ _ _ _ i room k (record { number = n; kind = j; capacity = c }) free)

-- the kind is known
known_kind : (room : Room) (n k c : ℕ) (b : Book) → first_of (enrol_checks room n k c b) ≡ None → is_some (kind_of k) ≡ true
known_kind room n k c b free = (and_parts _ _ (not-false _ (clear (enrol_checks room n k c b) free).0)).1

module _ {means : Rulebook} where
  fine : {t : Trace} {s : State} → Run means t s → Fine means t s
  fine start = (refl, refl, refl, refl, refl)
  fine (next run (new free)) = let f = fine run in fresh_at means _ _ _ _ _ _ (ap sorted f.0) f.1 f.2 f.3 f.4
  fine (next run (not_new _)) = fine run
  fine (next {t = t} {room = room} run (enrol {b = b} {b' = b'} {n = n} {k = k} {c = c} {r = Ok _} step)) =
      kept_enrol_as means t b b' room n k c (fine run) step.free (kind_of k) (known_kind room n k c b step.free) step.leaves
  fine (next run (enrol {r = Err _} step)) = subst (Inv means _ _ _ _ _ _) (sym step.same) (fine run)
  fine (next run (read {r = Ok _} step)) = subst (Inv means _ _ _ _ _ _) (sym step.leaves) (kept_read means _ _ _ _ _ _ _ (fine run) _ step.free)
  fine (next run (read {r = Err _} step)) = subst (Inv means _ _ _ _ _ _) (sym step.same) (fine run)
  fine (next {room = room} run (post {e = e} {r = Ok a} step)) =
      subst (Inv means _ _ _ _ _ _) (sym step.leaves)
      (kept_post means _ _ _ _ _ _ _ (fine run) (record { place = a.place; event = e }) room step.answers.at step.free)
  fine (next run (post {r = Err _} step)) = subst (Inv means _ _ _ _ _ _) (sym step.same) (fine run)
  fine (next {room = room} run (pay_in {r = Ok _} step)) = subst (Inv means _ _ _ _ _ _) (sym step.leaves) (kept_pay_in means _ _ _ _ _ _ _ (fine run) room _ step.free)
  fine (next run (pay_in {r = Err _} step)) = subst (Inv means _ _ _ _ _ _) (sym step.same) (fine run)
  fine (next run (account_sums {r = Ok _} step)) = subst (Inv means _ _ _ _ _ _) (sym step.leaves) (fine run)
  fine (next run (account_sums {r = Err _} step)) = subst (Inv means _ _ _ _ _ _) (sym step.same) (fine run)
  fine (next run publish) = fine run
  fine (next run (object {r = Ok _} step)) = subst (Inv means _ _ _ _ _ _) (sym step.leaves) (kept_object means _ _ _ _ _ _ _ (fine run) _)
  fine (next run (object {r = Err _} step)) = subst (Inv means _ _ _ _ _ _) (sym step.same) (fine run)
  fine (next {room = room} run (answer {upheld = true} {r = Ok _} step)) = subst (Inv means _ _ _ _ _ _) (sym step.leaves) (kept_uphold means _ _ _ _ _ _ _ (fine run) room _ step.free)
  fine (next run (answer {upheld = true} {r = Err _} step)) = subst (Inv means _ _ _ _ _ _) (sym step.same) (fine run)
  fine (next run (answer {upheld = false} {r = Ok _} step)) = subst (Inv means _ _ _ _ _ _) (sym step.leaves) (kept_dismiss means _ _ _ _ _ _ _ (fine run) _)
  fine (next run (answer {upheld = false} {r = Err _} step)) = subst (Inv means _ _ _ _ _ _) (sym step.same) (fine run)
  fine (next run (what_if {r = Ok _} step)) = subst (Inv means _ _ _ _ _ _) (sym step.leaves) (fine run)
  fine (next run (what_if {r = Err _} step)) = subst (Inv means _ _ _ _ _ _) (sym step.same) (fine run)
  fine (next run (account_sums_then {r = Ok _} step)) = subst (Inv means _ _ _ _ _ _) (sym step.leaves) (fine run)
  fine (next run (account_sums_then {r = Err _} step)) = subst (Inv means _ _ _ _ _ _) (sym step.same) (fine run)
  fine (next {room = room} run (settle {r = Ok s} {s = in_month _} step)) = subst (Inv means _ _ _ _ _ _) (sym step.leaves) (kept_settle means _ _ _ _ _ _ _ (fine run) room s step.answers step.free)
  fine (next run (settle {r = Ok _} {s = published _} step)) = absurd step
  fine (next run (settle {r = Ok _} {s = no_book} step)) = absurd step
  fine (next run (settle {r = Err _} {s = in_month _} step)) = absurd step
  fine (next run (settle {r = Err _} {s = no_book} step)) = absurd step
  fine (next run (settle {r = Err _} {s = published _} step)) = subst (Inv means _ _ _ _ _ _) (sym step.same) (fine run)

net_append : (rows rest : List Bill) → net_sum (rows ++ rest) ≡ net_sum rows +ℤ net_sum rest
net_append [] rest = omega (arith, ints)
net_append (r ∷ rows) rest = let h = net_append rows rest in omega (arith, ints)

-- enrolling moves no money
enrolled_balance : (t : Trace) (n c : ℕ) (b b' : Book) → net_sum (bills t) +ℤ pos (paid_in t) ≡ pos b.fund → (o : Option Kind) → b' ≡ enrol_as n o c b →
    net_sum (bills_by (enrolled_as n o c) (bills t)) +ℤ pos (paid_in_with (enrolled_as n o c) (paid_in t)) ≡ pos b'.fund
enrolled_balance t n c b b' h None leaves = h ∙ sym (ap (λ b. pos b.fund) leaves)
enrolled_balance t n c b b' h (Some k) leaves = h ∙ sym (ap (λ b. pos b.fund) leaves)

module _ {means : Rulebook} where
  -- the nets, the money left and the money paid in
  balanced : {t : Trace} {s : State} → Run means t s → net_sum (bills t) +ℤ pos (paid_in t) ≡ pos (fund_in s)
  balanced start = refl
  balanced (next run (new free)) = balanced run
  balanced (next run (not_new _)) = balanced run
  balanced (next {t = t} run (enrol {b = b} {b' = b'} {n = n} {k = k} {c = c} {r = Ok _} step)) = enrolled_balance t n c b b' (balanced run) (kind_of k) step.leaves
  balanced (next run (enrol {r = Err _} step)) = balanced run ∙ sym (ap (λ b. pos b.fund) step.same)
  balanced (next run (read {r = Ok _} step)) = balanced run ∙ sym (ap (λ b. pos b.fund) step.leaves)
  balanced (next run (read {r = Err _} step)) = balanced run ∙ sym (ap (λ b. pos b.fund) step.same)
  balanced (next run (post {r = Ok a} step)) = balanced run ∙ sym (ap (λ b. pos b.fund) step.leaves)
  balanced (next run (post {r = Err _} step)) = balanced run ∙ sym (ap (λ b. pos b.fund) step.same)
  balanced (next run (pay_in {r = Ok _} step)) = let h = balanced run in let e = ap (λ b. b.fund) step.leaves in omega (arith, ints)
  balanced (next run (pay_in {r = Err _} step)) = balanced run ∙ sym (ap (λ b. pos b.fund) step.same)
  balanced (next run (account_sums {r = Ok _} step)) = balanced run ∙ sym (ap (λ b. pos b.fund) step.leaves)
  balanced (next run (account_sums {r = Err _} step)) = balanced run ∙ sym (ap (λ b. pos b.fund) step.same)
  balanced (next run publish) = balanced run
  balanced (next run (object {r = Ok _} step)) = balanced run ∙ sym (ap (λ b. pos b.fund) step.leaves)
  balanced (next run (object {r = Err _} step)) = balanced run ∙ sym (ap (λ b. pos b.fund) step.same)
  balanced (next run (answer {upheld = true} {r = Ok _} step)) = balanced run ∙ sym (ap (λ b. pos b.fund) step.leaves)
  balanced (next run (answer {upheld = true} {r = Err _} step)) = balanced run ∙ sym (ap (λ b. pos b.fund) step.same)
  balanced (next run (answer {upheld = false} {r = Ok _} step)) = balanced run ∙ sym (ap (λ b. pos b.fund) step.leaves)
  balanced (next run (answer {upheld = false} {r = Err _} step)) = balanced run ∙ sym (ap (λ b. pos b.fund) step.same)
  balanced (next run (what_if {r = Ok _} step)) = balanced run ∙ sym (ap (λ b. pos b.fund) step.leaves)
  balanced (next run (what_if {r = Err _} step)) = balanced run ∙ sym (ap (λ b. pos b.fund) step.same)
  balanced (next run (account_sums_then {r = Ok _} step)) = balanced run ∙ sym (ap (λ b. pos b.fund) step.leaves)
  balanced (next run (account_sums_then {r = Err _} step)) = balanced run ∙ sym (ap (λ b. pos b.fund) step.same)
  balanced (next {t = t} {room = room} run (settle {b = b} {r = Ok s} {s = in_month _} step)) =
      settled (net_sum s.rows) (net_sum (bills t)) (net_sum (s.rows ++ bills t)) (paid_in t) b.fund _ _ (balanced run) (net_append s.rows (bills t))
      (ap net_sum step.answers.rows_are ∙ (closed b.month b.lines b.fund (weighed room b step.free)).nets) (ap (λ x. x.fund) step.leaves)
    where
      settled : (n o all : ℤ) (paid before left after : ℕ) → o +ℤ pos paid ≡ pos before → all ≡ n +ℤ o → n ≡ pos left -ℤ pos before → after ≡ left → all +ℤ pos paid ≡ pos after
      settled n o all paid before left after h e d f = omega (arith, ints)
  balanced (next run (settle {r = Ok _} {s = published _} step)) = absurd step
  balanced (next run (settle {r = Ok _} {s = no_book} step)) = absurd step
  balanced (next run (settle {r = Err _} {s = in_month _} step)) = absurd step
  balanced (next run (settle {r = Err _} {s = no_book} step)) = absurd step
  balanced (next run (settle {r = Err _} {s = published _} step)) = balanced run ∙ sym (ap (λ b. pos b.fund) step.same)

-- fair shares, at equal pools, weights and shares
fair_same : (p q : ℕ) (ws vs gs hs : List ℕ) → p ≡ q → ws ≡ vs → hs ≡ gs → Fair p ws gs → Fair q vs hs
fair_same p q ws vs gs hs e f g x = subst (λ a. Fair a vs hs) e (subst (λ a. Fair p a hs) f (subst (Fair p ws) (sym g) x))

-- a settling is as the history has it
module _ (means : Rulebook) (t : Trace) (b : Book) (i : Holds means t b) where
  by_line : {A : Type 0} (f : Line → A) → map f b.lines ≡ map (λ p. f (line_of means (month t) (readings t) (standing t) p)) (sorted (enrolments t))
  by_line f = ap (map f) i.lines_are ∙ map_map f (line_of means (month t) (readings t) (standing t)) (sorted (enrolments t))

  by_weight : (f : Weights → ℕ) → map (λ l. f (line_weights b.month l)) b.lines ≡ map (λ p. f (weights t p)) (sorted (enrolments t))
  by_weight f =
      ap (λ m. map (λ l. f (line_weights m l)) b.lines) i.month_is ∙ by_line (λ l. f (line_weights (month t) l))

  due : dues_of b.lines b.fund ≡ dues (together (map (sums_of means t) (sorted (enrolments t)))) (money t)
  due = ap₂ (λ ss n. dues (together ss) n) (by_line (λ l. l.sums)) i.fund_is

  pays : (pools : Sums) (fund : ℕ) → FundPays fund pools (record { first = (dues pools fund).first; second = (dues pools fund).second; third = (dues pools fund).third }) (dues pools fund).left
  pays pools fund = record {
    within_first = omega arith;
    within_second = omega arith;
    within_third = omega arith;
    whole = omega arith;
    first_before_second = omega arith;
    second_before_third = omega arith;
    third_before_left = omega arith;
  }

  lawful_settling : (s : Reckoning) → Settles b s → lacks_weight b.month b.lines b.fund ≡ false → LawfulSettling means t s
  lawful_settling s right weight =
      let c = closed b.month b.lines b.fund weight in
      let rows = right.rows_are in
      let d = due in
      let pools : Sums = together (map (sums_of means t) (sorted (enrolments t))) in
      record {
        parties = sorted (enrolments t);
        enrolled = shuffled_sorted (enrolments t);
        rising = i.rising;
        numbers = ap (map (λ r. r.number)) rows ∙ column_number b.lines _ _ _ _ ∙ by_line (λ l. l.party.number);
        charges = ap (map (λ r. r.charge)) rows ∙ column_charge b.lines _ _ _ _ ∙ by_line (λ l. l.sums.charges);
        pays = ap (map (λ r. r.pay)) rows ∙ column_pay b.lines _ _ _ _ ∙ by_line (λ l. pay_of l.sums);
        rest = record { first = (dues pools (money t)).first; second = (dues pools (money t)).second; third = (dues pools (money t)).third };
        paid = subst (λ n. FundPays (money t) pools (record { first = (dues pools (money t)).first; second = (dues pools (money t)).second; third = (dues pools (money t)).third }) n)
            (sym (right.left_is ∙ ap (λ x. x.left) d)) (pays pools (money t));
        first = fair_same _ _ _ _ _ _ (ap (λ x. x.first) d) (by_weight (λ w. w.first)) (ap (map (λ r. r.first)) rows) c.first;
        second = fair_same _ _ _ _ _ _ (ap (λ x. x.second) d) (by_weight (λ w. w.second)) (ap (map (λ r. r.second)) rows) c.second;
        third = fair_same _ _ _ _ _ _ (ap (λ x. x.third) d) (by_weight (λ w. w.third)) (ap (map (λ r. r.third)) rows) c.third;
        returned = fair_same _ _ _ _ _ _ (ap (λ x. x.returned) d) (by_weight (λ w. w.running)) (ap (map (λ r. r.returned)) rows) c.returned;
        determined = rows ∙ (λ j. bills_of (i.month_is j) (i.lines_are j) (i.fund_is j));
        nets = ap (map (λ r. r.net)) rows ∙ column_net b.lines _ _ _ _ ∙ sym (ap (map net_due) rows);
      }

  -- what the rulebook is asked about, at the party of the number
  asked_party : (e : Event) (c : Account × ℕ) → answer_to means e b ≡ Ok c →
      (q : Enrolment) × ContainsAt (enrolments t) q × (q.number ≡ e.party) × (means (facts q (month t) e) ≡ Ok c)
  asked_party e c h =
      go (found_drawn (λ p. worth_of means (month t) p (standing t)) (λ p. passed p (readings t)) (λ p. magnitude p (readings t)) (λ p. running_slots p (readings t)) e.party (sorted (enrolments t)))
    where
      same : asked means (month t) e (found number e.party (map (line_of means (month t) (readings t) (standing t)) (sorted (enrolments t)))) ≡ Ok c
      same = sym (ap₂ (λ m ls. asked means m e (found number e.party ls)) i.month_is i.lines_are) ∙ h

      go : (found number e.party (map (line_of means (month t) (readings t) (standing t)) (sorted (enrolments t))) ≡ None)
          ⊎ ((q : Enrolment) × ContainsAt (sorted (enrolments t)) q × (q.number ≡ e.party)
          × (found number e.party (map (line_of means (month t) (readings t) (standing t)) (sorted (enrolments t))) ≡ Some (line_of means (month t) (readings t) (standing t) q)))
          → (q : Enrolment) × ContainsAt (enrolments t) q × (q.number ≡ e.party) × (means (facts q (month t) e) ≡ Ok c)
      go (inl n) = absurd (let z : Err UnknownParty ≡ Ok c = sym (ap (asked means (month t) e) n) ∙ same in let y : ◌≡◌ {A = ℕ} 0 1 = cc in omega arith)
      go (inr f) = (
        f.0,
        has_shuffled (sorted (enrolments t)) (enrolments t) f.0 (IsPermutation-sym (enrolments t) (sorted (enrolments t)) (shuffled_sorted (enrolments t))) f.1,
        f.2,
        sym (ap (asked means (month t) e) f.3) ∙ same,
      )

  lawful_posting : (e : Event) (a : Posted) → WithinLimits means → a.place ≡ b.used → answer_to means e b ≡ Ok (a.account, a.amount) → LawfulPosting means t e a
  lawful_posting e a limits place h =
      let f = asked_party e (a.account, a.amount) h in
      let w : a.amount ≤ 1_000_000_000 = subst Bounded f.3 (limits (facts f.0 (month t) e)) in
      record {
        next_place = place ∙ i.used_is;
        party = f.0;
        enrolled = f.1;
        named = f.2;
        meant = f.3;
        amount_within = w;
      }

  -- sums that are read at the party of a number
  read_sums : (n : ℕ) (ws : List ℕ) (es : List Placed) (s : List ℕ) → ReadsSums means b.month ws (found number n b.lines) s →
      ((p : Enrolment) → by_word means (month t) p (this_month ws) ≡ worth_of means (month t) p es) → LawfulSums means t n es s
  read_sums n ws es s h scan =
      go (found_drawn (λ p. worth_of means (month t) p (standing t)) (λ p. passed p (readings t)) (λ p. magnitude p (readings t)) (λ p. running_slots p (readings t)) n (sorted (enrolments t)))
    where
      same : ReadsSums means (month t) ws (found number n (map (line_of means (month t) (readings t) (standing t)) (sorted (enrolments t)))) s
      same = subst₂ (λ m ls. ReadsSums means m ws (found number n ls) s) i.month_is i.lines_are h

      go : (found number n (map (line_of means (month t) (readings t) (standing t)) (sorted (enrolments t))) ≡ None)
          ⊎ ((q : Enrolment) × ContainsAt (sorted (enrolments t)) q × (q.number ≡ n)
          × (found number n (map (line_of means (month t) (readings t) (standing t)) (sorted (enrolments t))) ≡ Some (line_of means (month t) (readings t) (standing t) q)))
          → LawfulSums means t n es s
      go (inl z) = absurd (subst (λ o. ReadsSums means (month t) ws o s) z same)
      go (inr f) =
          let q = f.0 in
          let read : s ≡ listed (sums_in means (month t) q ws) = subst (λ o. ReadsSums means (month t) ws o s) f.3 same in
          record {
            party = q;
            enrolled = has_shuffled (sorted (enrolments t)) (enrolments t) q (IsPermutation-sym (enrolments t) (sorted (enrolments t)) (shuffled_sorted (enrolments t))) f.1;
            named = f.2;
            sums_are = read ∙ ap listed (by_word_is means (month t) q (this_month ws) ∙ scan q);
          }

  lawful_sums : (n : ℕ) (s : List ℕ) → ReadsSums means b.month b.words (found number n b.lines) s → LawfulSums means t n (standing t) s
  lawful_sums n s h =
      read_sums n (journal t) (standing t) s (subst (λ ws. ReadsSums means b.month ws (found number n b.lines) s) i.words_are h) i.scanned

  has_with : (place : ℕ) (e : Placed) (es : List Placed) → event_with place es ≡ Some e → ContainsAt es e
  has_with place e [] h = absurd (let y : ◌≡◌ {A = ℕ} 0 1 = cc in omega arith)
  has_with place e (d ∷ es) h = go (has_with place e es) (eqb d.place place) h
    where
      go : (event_with place es ≡ Some e → ContainsAt es e) → (u : Bool) → cond u (Some d) (event_with place es) ≡ Some e → ContainsAt (d ∷ es) e
      go ih true q = let same : d ≡ e = cc in (0, omega arith, λ x. same)
      go ih false q = let f = ih q in (suc f.0, omega (arith, f.1), f.2)

  lawful_what_if : (place : ℕ) (s : List ℕ) → (month_start b.words ≤ place) × (kind (get_or b.words place 0) ≡ 1) →
      ReadsSums means b.month (struck place b.words) (found number (event_at place b.words).party b.lines) s → LawfulWhatIf means t place s
  lawful_what_if place s from h =
      let there : (month_start (journal t) ≤ place) × (kind (get_or (journal t) place 0) ≡ 1) =
      subst (λ ws. (month_start ws ≤ place) × (kind (get_or ws place 0) ≡ 1)) i.words_are from in
      let at = i.located place there.0 there.1 in
      record {
        event = placed_at place (journal t);
        accepted = has_with place (placed_at place (journal t)) (standing t) at.is;
        there = refl;
        sums = read_sums (event_at place (journal t)).party (struck place (journal t)) (without place (standing t)) s
            (subst (λ ws. ReadsSums means b.month (struck place ws) (found number (event_at place ws).party b.lines) s) i.words_are h)
            (λ p. scanned_strike means (month t) p (length (journal t)) (journal t) (standing t) place there.0 there.1 i.located i.falling (i.scanned p));
      }

module _ {means : Rulebook} where
  before : {e : Entry} {t : Trace} {s : State} → Run means (e ∷ t) s → (s' : State) × Run means t s'
  before (next run _) = (_, run)

  -- a run without its last calls is a run
  reach : (later t : Trace) {s : State} → Run means (later ++ t) s → (s' : State) × Run means t s'
  reach [] t run = (_, run)
  reach (e ∷ later) t run = reach later t (before run).1

  last_settling : {r : Reckoning} {t : Trace} {s : State} → Run means (Settle (Ok r) ∷ t) s → LawfulSettling means t r
  last_settling {r = r} {t = t} (next {room = room} run (settle {b = b} {s = in_month _} step)) =
      lawful_settling means t b (fine run) r step.answers (weighed room b step.free)
  last_settling (next run (settle {s = published _} step)) = absurd step
  last_settling (next run (settle {s = no_book} step)) = absurd step

  last_posting : {e : Event} {a : Posted} {t : Trace} {st : State} → WithinLimits means → Run means (Post e (Ok a) ∷ t) st → LawfulPosting means t e a
  last_posting {e = e} {a = a} {t = t} limits (next run (post {b = b} step)) =
      lawful_posting means t b (fine run) e a limits step.answers.at step.answers.meant

  last_payment : {amount place : ℕ} {t : Trace} {s : State} → Run means (PayIn amount (Ok place) ∷ t) s → place ≡ length (journal t)
  last_payment (next run (pay_in step)) = step.answers ∙ (fine run).used_is

  last_sums : {n : ℕ} {r : List ℕ} {t : Trace} {s : State} → Run means (AccountSums n (Ok r) ∷ t) s → LawfulSums means t n (standing t) r
  last_sums {n = n} {r = r} {t = t} (next run (account_sums {b = b} step)) = lawful_sums means t b (fine run) n r step.answers
  last_sums {n = n} {r = r} {t = t} (next run (account_sums_then {b = b} step)) = lawful_sums means t b (fine run) n r step.answers

  last_what_if : {place : ℕ} {r : List ℕ} {t : Trace} {s : State} → Run means (WhatIf place (Ok r) ∷ t) s → LawfulWhatIf means t place r
  last_what_if {place = place} {r = r} {t = t} (next {room = room} run (what_if {b = b} step)) =
      lawful_what_if means t b (fine run) place r (stood room place b step.free) step.answers

-- the book of a state is within its limits
abbrev HeldIn : State → Type 0
HeldIn no_book = Unit {0}
HeldIn (in_month b) = Held b
HeldIn (published b) = Held b

held_enrol_as : (b b' : Book) → Held b → (room : Room) (n k c : ℕ) → first_of (enrol_checks room n k c b) ≡ None → b' ≡ enrol_as n (kind_of k) c b →
    (o : Option Kind) → kind_of k ≡ o → Held b'
held_enrol_as b b' h room n k c free leaves None is = subst Held (sym (leaves ∙ ap (λ x. enrol_as n x c b) is)) h
held_enrol_as b b' h room n k c free leaves (Some j) is =
    subst Held (sym (leaves ∙ ap (λ x. enrol_as n x c b) is)) (held_enrol b h room k (record { number = n; kind = j; capacity = c }) free)

module _ {means : Rulebook} where
  held : {t : Trace} {s : State} → Run means t s → HeldIn s
  held start = tt
  held (next run (new {year = year} {month = month} free)) = held_new year month free
  held (next run (not_new _)) = tt
  held (next {room = room} run (enrol {b = b} {n = n} {k = k} {c = c} {r = Ok _} step)) = held_enrol_as b _ (held run) room n k c step.free step.leaves (kind_of k) refl
  held (next run (enrol {r = Err _} step)) = subst Held (sym step.same) (held run)
  held (next run (read {b = b} {m = m} {r = Ok _} step)) = subst Held (sym step.leaves) (held_read b (held run) m step.free)
  held (next run (read {r = Err _} step)) = subst Held (sym step.same) (held run)
  held (next {room = room} run (post {b = b} {e = e} {r = Ok _} step)) =
      subst Held (sym step.leaves) (held_post b (held run) means room e (fits_post means _ _ _ _ _ _ b (fine run) (record { place = b.used; event = e }) room step.free) step.free)
  held (next run (post {r = Err _} step)) = subst Held (sym step.same) (held run)
  held (next {room = room} run (pay_in {b = b} {amount = amount} {r = Ok _} step)) = subst Held (sym step.leaves) (held_pay_in b (held run) room amount step.free)
  held (next run (pay_in {r = Err _} step)) = subst Held (sym step.same) (held run)
  held (next run (account_sums {r = Ok _} step)) = subst Held (sym step.leaves) (held run)
  held (next run (account_sums {r = Err _} step)) = subst Held (sym step.same) (held run)
  held (next run publish) = held run
  held (next {room = room} run (object {b = b} {place = place} {r = Ok _} step)) = subst Held (sym step.leaves) (held_object b (held run) room place step.free)
  held (next run (object {r = Err _} step)) = subst Held (sym step.same) (held run)
  held (next run (answer {b = b} {place = place} {upheld = true} {r = Ok _} step)) = subst Held (sym step.leaves) (held_uphold b (held run) means place)
  held (next run (answer {upheld = true} {r = Err _} step)) = subst Held (sym step.same) (held run)
  held (next run (answer {b = b} {place = place} {upheld = false} {r = Ok _} step)) = subst Held (sym step.leaves) (held_dismiss b (held run) place)
  held (next run (answer {upheld = false} {r = Err _} step)) = subst Held (sym step.same) (held run)
  held (next run (what_if {r = Ok _} step)) = subst Held (sym step.leaves) (held run)
  held (next run (what_if {r = Err _} step)) = subst Held (sym step.same) (held run)
  held (next run (account_sums_then {r = Ok _} step)) = subst Held (sym step.leaves) (held run)
  held (next run (account_sums_then {r = Err _} step)) = subst Held (sym step.same) (held run)
  held (next {room = room} run (settle {b = b} {r = Ok s} {s = in_month _} step)) = subst Held (sym step.leaves) (held_settle b (held run) room step.free)
  held (next run (settle {r = Ok _} {s = published _} step)) = absurd step
  held (next run (settle {r = Ok _} {s = no_book} step)) = absurd step
  held (next run (settle {r = Err _} {s = in_month _} step)) = absurd step
  held (next run (settle {r = Err _} {s = no_book} step)) = absurd step
  held (next run (settle {r = Err _} {s = published _} step)) = subst Held (sym step.same) (held run)

book_fits : (means : Rulebook) (t : Trace) (b : Book) → Holds means t b → Held b → BookFits b
book_fits means t b i h = record {
  month_low = h.month_low;
  month_high = h.month_high;
  words = h.words;
  words_used = h.words_used;
  lines = lines_fit b.lines h.lines (sums_each b.lines h.sums);
  rising = subst (Rising number) (sym i.lines_are)
      (rising_drawn (λ p. worth_of means (month t) p (standing t)) (λ p. passed p (readings t)) (λ p. magnitude p (readings t)) (λ p. running_slots p (readings t)) (sorted (enrolments t)) i.rising);
  parties = h.parties;
  objections = h.objections;
  sums = h.sums;
  fund = h.fund;
}

state_fits : (means : Rulebook) (t : Trace) (s : State) → Fine means t s → HeldIn s → StateFits s
state_fits means t no_book f h = tt
state_fits means t (in_month b) f h = book_fits means t b f h
state_fits means t (published b) f h = book_fits means t b f h

at_hand : (means : Rulebook) (t : Trace) (s : State) → Fine means t s → fund_in s ≡ money t
at_hand means t no_book f = sym f.4
at_hand means t (in_month b) f = f.fund_is
at_hand means t (published b) f = f.fund_is

written : (means : Rulebook) (t : Trace) (s : State) → Fine means t s → words_in s ≡ journal t
written means t no_book f = sym f.3
written means t (in_month b) f = f.words_are
written means t (published b) f = f.words_are

pub every_run_within_limits : (means : Rulebook) → WithinLimits means → RunsWithinLimits means
every_run_within_limits means limits t s run = state_fits means t s (fine run) (held run)

pub every_run_lawful : (means : Rulebook) → WithinLimits means → RunsLawful means
every_run_lawful means limits t s run =
    let at : (later rest : Trace) → t ≡ later ++ rest → (s' : State) × Run means rest s' = λ later rest e. reach later rest (subst (λ u. Run means u s) e run) in
    record {
      balance = let h = balanced run in omega (arith, ints);
      at_hand = at_hand means t s (fine run);
      written = written means t s (fine run);
      settlings = λ later earlier r e. last_settling (at later _ e).1;
      postings = λ later earlier e a q. last_posting limits (at later _ q).1;
      payments = λ later earlier amount place e. last_payment (at later _ e).1;
      account_sums = λ later earlier n r e. last_sums (at later _ e).1;
      what_ifs = λ later earlier place r e. last_what_if (at later _ e).1;
    }

-- steps carry every run on
pub carry : (means : Rulebook) (room : Room) (before after : State) (added : List Entry) → Steps means room before added after → (t : Trace) → Run means t before → Run means (added ++ t) after
carry means room before after [] same t run = subst (Run means t) (sym same) run
carry means room before after (e ∷ es) s t run = next (carry means room before s.0 es s.1 t run) s.2

pub carries : (means : Rulebook) → WithinLimits means → {room : Room} {before after : State} {call : Call} {answer : Result Reply Denial} {sheet : List Bill} →
    Served means room before call answer sheet after → Carries means room before call answer sheet after
carries means limits {room} {before} {after} did =
    let more = carry means room before after did.added did.steps in
    record { served = did; carried = record { run = more; lawful = λ t run. every_run_lawful means limits (did.added ++ t) after (more t run) } }

-- before there is a book, nothing depends on the rulebook
pub any_rulebook : {means : Rulebook} {t : Trace} (others : Rulebook) → Run means t no_book → Run others t no_book
any_rulebook others start = start
any_rulebook others (next {room = room} run (not_new e)) = next {room = room} (any_rulebook others run) (not_new e)
any_rulebook others (next run (settle {r = Ok _} step)) = absurd step
any_rulebook others (next run (settle {r = Err _} step)) = absurd step
