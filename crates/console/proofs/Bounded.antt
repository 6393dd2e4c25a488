-- Every answer that a run leads to keeps the limits of the book. Assumes nothing.
use Rattle.std.proofs.Common.{◌≡◌, ℕ, suc, ◌+◌, ◌*◌, ◌≤◌, Bool, true, false, cond, eqb, List, [], ◌∷◌, length, get_or, drop, pos, ◌-ℤ◌, nat_abs, Ok, Err, sym, subst, arith}
use Rattle.std.proofs.lemmas.Int.{ints}
use Rattle.std.proofs.lemmas.List.{length-append, length-set, get_or-drop}
use Rattle.std.specs.List.{AllByRecursion}
use Rattle.std.proofs.lemmas.Bool.{or_parts}
use Rattle.rules.specs.Answers.{Answer, Rulebook, Bounded, place}
use Rattle.rules.specs.Sums.{put, ◌plus◌}
use Rattle.rules.specs.declared.sums.Sums.{Sums}
use Rattle.records.specs.Asking.{facts, worth}
use Rattle.records.specs.Words.{event_words, word, content}
use Rattle.records.specs.declared.enrolment.Enrolment.{Enrolment}
use Rattle.records.specs.declared.event.Event.{Event}
use Rattle.billing.specs.Bills.{bills_with, bills_of, pay_of, dues_of, column, lacks_weight}
use Rattle.billing.specs.Lines.{Line}
use Rattle.billing.specs.Sharing.{shares}
use Rattle.billing.proofs.Shares.{fair, getD_le_total}
use Rattle.settlement.specs.Book.{Book, State, no_book, in_month, published, words_in}
use Rattle.book.specs.Laws.{WithinLimits}
use Rattle.book.specs.Limits.{LineFits, BookFits, StateFits}
use Rattle.book.specs.History.{News, opened, enrolled, measured, posted, paid, upheld, settled, none, news, Placed, without, standing_with, standing, journal_with, journal, month}
use Rattle.book.specs.Runs.{Trace}
use Rattle.console.proofs.Sizes.{RowFits}

-- what one answer puts on an account
put_small : (k : ℕ) (a : Answer) → Bounded a → put k a ≤ 1_000_000_000
put_small k (Ok c) h = go (eqb (place c.0) k)
  where
    go : (t : Bool) → cond t c.1 0 ≤ 1_000_000_000
    go true = h
    go false = omega arith
put_small k (Err _) h = omega arith

pub record WorthFits (n : ℕ) (s : Sums) : Type 0 where
  pub charges : s.charges ≤ 1_000_000_000 * n
  pub first : s.first ≤ 1_000_000_000 * n
  pub second : s.second ≤ 1_000_000_000 * n
  pub third : s.third ≤ 1_000_000_000 * n

pub worth_small : (means : Rulebook) → WithinLimits means → (m : ℕ) (p : Enrolment) (es : List Event) → WorthFits (length es) (worth means m p es)
worth_small means lim m p [] = record { charges = omega arith; first = omega arith; second = omega arith; third = omega arith }
worth_small means lim m p (e ∷ es) = go (worth_small means lim m p es) (eqb e.party p.number)
  where
    b : Bounded (means (facts p m e))
    b = lim (facts p m e)

    go : WorthFits (length es) (worth means m p es) → (t : Bool) → WorthFits (suc (length es)) (cond t (worth means m p es plus means (facts p m e)) (worth means m p es))
    go ih true = record {
      charges = omega (arith, ih.charges, put_small 0 (means (facts p m e)) b);
      first = omega (arith, ih.first, put_small 1 (means (facts p m e)) b);
      second = omega (arith, ih.second, put_small 2 (means (facts p m e)) b);
      third = omega (arith, ih.third, put_small 3 (means (facts p m e)) b);
    }
    go ih false = record { charges = omega (arith, ih.charges); first = omega (arith, ih.first); second = omega (arith, ih.second); third = omega (arith, ih.third) }

pub without_fewer : (place : ℕ) (es : List Placed) → length (without place es) ≤ length es
without_fewer place [] = omega arith
without_fewer place (e ∷ es) = go (without_fewer place es) (eqb e.place place)
  where
    go : length (without place es) ≤ length es → (t : Bool) → length (cond t (without place es) (e ∷ without place es)) ≤ suc (length es)
    go ih true = omega arith
    go ih false = omega arith

-- there are no more standing events than words of the journal
events_few_with : (n : News) (m : ℕ) (es : List Placed) (ws : List ℕ) → length es ≤ length ws → length (standing_with n es) ≤ length (journal_with n m ws)
events_few_with (opened _) m es ws h = h
events_few_with (enrolled _) m es ws h = h
events_few_with (measured _) m es ws h = h
events_few_with (posted e) m es ws h = omega (arith, length-append ws (event_words e.event))
events_few_with (paid amount) m es ws h = omega (arith, length-append ws (word 5 amount ∷ []))
events_few_with (upheld q) m es ws h = omega (arith, without_fewer q es, length-set ws q (word 2 (content (get_or ws q 0))))
events_few_with (settled _) m es ws h = omega arith
events_few_with none m es ws h = h

pub events_few : (t : Trace) → length (standing t) ≤ length (journal t)
events_few [] = omega arith
events_few (e ∷ t) = events_few_with (news e) (month t) (standing t) (journal t) (events_few t)

pub words_few : (s : State) → StateFits s → length (words_in s) ≤ 1_048_576
words_few no_book f = omega arith
words_few (in_month b) f = f.words_used
words_few (published b) f = f.words_used

-- the rows of a settling
rows_fit : (ls : List Line) (a b c d : List ℕ) → AllByRecursion LineFits ls →
    ((k : ℕ) → get_or a k 0 ≤ 40_000_000_000) → ((k : ℕ) → get_or b k 0 ≤ 40_000_000_000) → ((k : ℕ) → get_or c k 0 ≤ 40_000_000_000) → ((k : ℕ) → get_or d k 0 ≤ 40_000_000_000) →
    AllByRecursion RowFits (bills_with ls a b c d)
rows_fit [] a b c d f h1 h2 h3 h4 = tt
rows_fit (l ∷ ls) a b c d f h1 h2 h3 h4 = (
  record {
    number = f.0.party.number_high;
    charge = f.0.sums.charges;
    pay = omega (arith, f.0.sums.first, f.0.sums.second, f.0.sums.third);
    first = h1 0;
    second = h2 0;
    third = h3 0;
    returned = h4 0;
    net = near (l.sums.charges + get_or a 0 0 + get_or b 0 0 + get_or c 0 0) (pay_of l.sums + get_or d 0 0)
        (omega (arith, f.0.sums.charges, h1 0, h2 0, h3 0)) (omega (arith, f.0.sums.first, f.0.sums.second, f.0.sums.third, h4 0));
  },
  rows_fit ls (drop 1 a) (drop 1 b) (drop 1 c) (drop 1 d) f.1 (next a h1) (next b h2) (next c h3) (next d h4),
)
  where
    near : (x y : ℕ) → x ≤ 160_000_000_000 → y ≤ 160_000_000_000 → nat_abs (pos x -ℤ pos y) ≤ 160_000_000_000
    near x y h k = omega (arith, ints)

    next : (xs : List ℕ) → ((k : ℕ) → get_or xs k 0 ≤ 40_000_000_000) → (k : ℕ) → get_or (drop 1 xs) k 0 ≤ 40_000_000_000
    next xs h k = subst (λ n. n ≤ 40_000_000_000) (sym (get_or-drop 1 xs k 0)) (h (1 + k))

pub bills_fit : (m : ℕ) (b : Book) → BookFits b → lacks_weight m b.lines b.fund ≡ false → AllByRecursion RowFits (bills_of m b.lines b.fund)
bills_fit m b f h =
    let d = dues_of b.lines b.fund in
    let h1 = or_parts _ _ h in
    let h2 = or_parts _ _ h1.1 in
    let h3 = or_parts _ _ h2.1 in
    let f1 = fair d.first (column (λ w. w.first) m b.lines) h1.0 in
    let f2 = fair d.second (column (λ w. w.second) m b.lines) h2.0 in
    let f3 = fair d.third (column (λ w. w.third) m b.lines) h3.0 in
    let f4 = fair d.returned (column (λ w. w.running) m b.lines) h3.1 in
    let s = f.sums in
    rows_fit b.lines _ _ _ _ f.lines
    (λ k. omega (arith, getD_le_total (shares d.first (column (λ w. w.first) m b.lines)) k, f1.adds_up, s.first))
    (λ k. omega (arith, getD_le_total (shares d.second (column (λ w. w.second) m b.lines)) k, f2.adds_up, s.second))
    (λ k. omega (arith, getD_le_total (shares d.third (column (λ w. w.third) m b.lines)) k, f3.adds_up, s.third))
    (λ k. omega (arith, getD_le_total (shares d.returned (column (λ w. w.running) m b.lines)) k, f4.adds_up, s.charges))
