-- The answer to any call that a run leads to has room on a page. Assumes nothing.
use Rattle.std.proofs.Common.{◌≡◌, ℕ, ◌≤◌, Bool, true, false, cond, List, [], ◌∷◌, map, length, take, Ok, Err, Result, sym, refl, ap, ◌∙◌, subst, append-nil, arith}
use Rattle.std.proofs.lemmas.List.{length-map}
use Rattle.std.specs.List.{AllByRecursion}
use Rattle.rules.specs.Answers.{Rulebook}
use Rattle.rules.specs.Sums.{listed}
use Rattle.rules.specs.declared.refusal.Refusal.{Refusal}
use Rattle.records.specs.declared.enrolment.Enrolment.{Enrolment}
use Rattle.billing.specs.declared.bill.Bill.{Bill}
use Rattle.billing.proofs.Rows.{length_bills}
use Rattle.settlement.specs.Book.{State, no_book, in_month, published, Room}
use Rattle.settlement.specs.Settling.{Reckoning}
use Rattle.book.specs.Entries.{answer_of, rows_of, allows, given_as}
use Rattle.book.specs.History.{Placed, without, standing, journal, month, worth_of}
use Rattle.book.specs.Laws.{WithinLimits}
use Rattle.book.specs.Limits.{StateFits}
use Rattle.book.specs.Runs.{Entry, New, Enrol, Read, Post, PayIn, Publish, Object, Answer, WhatIf, AccountSums, Settle, Trace, Step, settle, Run, next}
use Rattle.book.specs.Serving.{Steps, rows_in, Served}
use Rattle.book.specs.declared.answer.Reply.{Reply}
use Rattle.book.specs.declared.answer.Denial.{Denial}
use Rattle.book.specs.declared.answer.Denial.TheVariants.{Misplaced}
use Rattle.book.specs.declared.answer.Reply.TheVariants.{Done}
use Rattle.book.specs.declared.call.Call.{Call}
use Rattle.book.proofs.Keeping.{weighed}
use Rattle.book.proofs.Lawful.{every_run_lawful, every_run_within_limits}
use Rattle.console.proofs.Bounded.{worth_small, without_fewer, events_few, words_few, bills_fit}
use Rattle.console.proofs.Sizes.{RowFits, AnswerFits}

done_fits : (r : Result (Unit {0}) Refusal) (sheet : List Bill) → AnswerFits (given_as (λ _. Done) r) sheet
done_fits (Ok _) sheet = tt
done_fits (Err _) sheet = tt

module _ (means : Rulebook) (lim : WithinLimits means) (t : Trace) (s : State) (run : Run means t s) where
  few : length (journal t) ≤ 1_048_576
  few =
      let written = (every_run_lawful means lim t s run).written in
      omega (arith, words_few s (every_run_within_limits means lim t s run), ap length written)

  -- sums over events that the journal has words for
  sums_fit : (p : Enrolment) (es : List Placed) (ns : List ℕ) → length es ≤ length (journal t) → ns ≡ listed (worth_of means (month t) p es) →
      (length ns ≡ 4) × AllByRecursion (λ n. n ≤ 1_048_576_000_000_000) ns
  sums_fit p es ns h is =
      let events = map (λ e. e.event) es in
      let w = worth_small means lim (month t) p events in
      let n : length events ≤ 1_048_576 = omega (arith, length-map es (λ e. e.event), few) in
      subst (λ ms. (length ms ≡ 4) × AllByRecursion (λ k. k ≤ 1_048_576_000_000_000) ms) (sym is)
      (refl, (omega (arith, w.charges, n), (omega (arith, w.first, n), (omega (arith, w.second, n), (omega (arith, w.third, n), tt)))))

  entry_fits : (room : Room) (s' : State) (e : Entry) (sheet : List Bill) → Step means room s e s' → rows_of e ≡ take (length (rows_of e)) sheet → AnswerFits (answer_of e) sheet
  entry_fits room s' (New _ _ r) sheet step billed = done_fits r sheet
  entry_fits room s' (Enrol _ _ _ r) sheet step billed = done_fits r sheet
  entry_fits room s' (Read _ r) sheet step billed = done_fits r sheet
  entry_fits room s' (Post e (Ok a)) sheet step billed =
      let law = (every_run_lawful means lim (Post e (Ok a) ∷ t) s' (next run step)).postings [] t e a refl in
      (omega (arith, few, law.next_place), law.amount_within)
  entry_fits room s' (Post e (Err _)) sheet step billed = tt
  entry_fits room s' (PayIn n (Ok place)) sheet step billed =
      let law = (every_run_lawful means lim (PayIn n (Ok place) ∷ t) s' (next run step)).payments [] t n place refl in
      omega (arith, few, law)
  entry_fits room s' (PayIn n (Err _)) sheet step billed = tt
  entry_fits room s' Publish sheet step billed = tt
  entry_fits room s' (Object _ r) sheet step billed = done_fits r sheet
  entry_fits room s' (Answer _ _ r) sheet step billed = done_fits r sheet
  entry_fits room s' (WhatIf place (Ok ns)) sheet step billed =
      let law = ((every_run_lawful means lim (WhatIf place (Ok ns) ∷ t) s' (next run step)).what_ifs [] t place ns refl).sums in
      sums_fit law.party (without place (standing t)) ns (omega (arith, without_fewer place (standing t), events_few t)) law.sums_are
  entry_fits room s' (WhatIf place (Err _)) sheet step billed = tt
  entry_fits room s' (AccountSums n (Ok ns)) sheet step billed =
      let law = (every_run_lawful means lim (AccountSums n (Ok ns) ∷ t) s' (next run step)).account_sums [] t n ns refl in
      sums_fit law.party (standing t) ns (events_few t) law.sums_are
  entry_fits room s' (AccountSums n (Err _)) sheet step billed = tt
  entry_fits room s' (Settle (Ok r)) sheet step billed = settled_fits room s s' r sheet (every_run_within_limits means lim t s run) step billed
    where
      settled_fits : (room : Room) (s s' : State) (r : Reckoning) (sheet : List Bill) → StateFits s → Step means room s (Settle (Ok r)) s' → r.rows ≡ take (length r.rows) sheet →
          AnswerFits (answer_of (Settle (Ok r))) sheet
      settled_fits room s s' r sheet f (settle {b = b} {s = in_month _} step) billed =
          let rows = bills_fit b.month b f (weighed room b step.free) in
          let long : length r.rows ≡ length b.lines = ap length step.answers.rows_are ∙ length_bills b.lines _ _ _ _ in
          let few-rows : length r.rows ≤ 64 = omega (arith, long, f.parties) in (
            few-rows,
            omega (arith, step.answers.left_is, f.fund),
            subst (λ rs. length rs ≤ 64) billed few-rows,
            subst (AllByRecursion RowFits) (sym step.answers.rows_are ∙ billed) rows,
          )
      settled_fits room s s' r sheet f (settle {s = published _} step) billed = absurd step
      settled_fits room s s' r sheet f (settle {s = no_book} step) billed = absurd step
  entry_fits room s' (Settle (Err _)) sheet step billed = tt

  module _ (room : Room) (call : Call) (answer : Result Reply Denial) (sheet : List Bill) (s' : State) where
    by_added : (added : List Entry) → (b : Bool) → map answer_of added ≡ cond b (answer ∷ []) [] → (b ≡ false → answer ≡ Err Misplaced) →
        rows_in added ≡ take (length (rows_in added)) sheet → Steps means room s added s' → AnswerFits answer sheet
    by_added [] true told away billed steps = absurd (let long = ap length told in omega arith)
    by_added [] false told away billed steps = subst (λ a. AnswerFits a sheet) (sym (away refl)) tt
    by_added (e ∷ []) true told away billed steps =
        let same : answer_of e ≡ answer = cc in
        let step : Step means room s e s' = subst (λ mid. Step means room mid e s') steps.1 steps.2 in
        let rows : rows_of e ≡ take (length (rows_of e)) sheet = subst (λ rs. rs ≡ take (length rs) sheet) (append-nil (rows_of e)) billed in
        subst (λ a. AnswerFits a sheet) same (entry_fits room s' e sheet step rows)
    by_added (e ∷ []) false told away billed steps = absurd (let long = ap length told in omega arith)
    by_added (e ∷ f ∷ es) true told away billed steps = absurd (let long = ap length told in omega arith)
    by_added (e ∷ f ∷ es) false told away billed steps = absurd (let long = ap length told in omega arith)

    pub served_fits : Served means room s call answer sheet s' → AnswerFits answer sheet
    served_fits v = by_added v.added (allows s call) v.answers v.turned_away v.billed v.steps
