-- What the book and the history of its run have in common, and that every call keeps it. Assumes nothing.
use Rattle.std.proofs.Common.{◌≡◌, ℕ, ◌+◌, ◌<◌, ◌≤◌, Bool, true, false, cond, eqb, leb, ◌⊎◌, List, [], ◌∷◌, ◌++◌, map, length, get_or, nat_abs, Some, None, Option, sym, refl, ap, ◌∙◌, subst, ap₂, inl, inr, arith}
use Rattle.std.proofs.lemmas.Bool.{eqb-true, eq-eqb, ne_eqb, leb-true, leb-false, cases_eq, or_parts, or_cases, and_parts, not-false, both_ways}
use Rattle.std.proofs.lemmas.List.{length-append, length-set}
use Rattle.rules.specs.declared.refusal.Refusal.{Refusal}
use Rattle.rules.specs.Answers.{Answer, Rulebook}
use Rattle.rules.specs.Sums.{nothing, ◌plus◌, ◌less◌}
use Rattle.rules.specs.Calendar.{last_month}
use Rattle.settlement.specs.Registers.{has, entered, changed, by_number}
use Rattle.register.specs.Numbered.{Rising}
use Rattle.records.specs.declared.enrolment.Enrolment.{Enrolment}
use Rattle.billing.specs.declared.reading.Reading.{Reading}
use Rattle.billing.specs.Lines.{runs, blank, number, take_reading}
use Rattle.records.specs.Asking.{facts}
use Rattle.records.specs.Words.{kind, content, word, event_words}
use Rattle.records.specs.Journal.{event_at, month_start, this_month, standing_at, kind_at, struck}
use Rattle.settlement.specs.Asking.{what_if_checks}
use Rattle.settlement.specs.Book.{Book, Room}
use Rattle.settlement.specs.Settling.{Reckoning, settle_checks, settle, Settles}
use Rattle.billing.specs.Bills.{lacks_weight}
use Rattle.settlement.specs.Checks.{Check, first_of}
use Rattle.settlement.specs.Enrolling.{enrol_checks, enrol, read_checks, read}
use Rattle.settlement.specs.Posting.{post_checks, charge, post, pay_in_checks, pay_in}
use Rattle.settlement.specs.Objecting.{object, can_strike, answer_checks, take_off, uphold, dismiss}
use Rattle.book.specs.History.{Placed, without, worth_of, magnitude, running_slots, passed, line_of}
use Rattle.book.proofs.Rosters.{rising_entered, has_entered, has_drawn, entered_drawn, changed_drawn}
use Rattle.book.proofs.Strikes.{same_sums, Falling, falling_more, falling_without, worth_struck, worth_other}
use Rattle.book.proofs.Limiting.{days_within, postable}
use Rattle.book.proofs.Scanning.{scanned_post, scanned_push, scanned_end, scanned_strike, by_word}
use Rattle.book.proofs.Wording.{Fits, placed_at, At, Located, located_push, located_end, located_post, located_strike}

pub record Inv (means : Rulebook) (m : ℕ) (ps : List Enrolment) (rs : List Reading) (es : List Placed) (ws : List ℕ) (n : ℕ) (b : Book) : Type 0 where
  pub month_is : b.month ≡ m
  pub used_is : b.used ≡ length ws
  pub words_are : b.words ≡ ws
  pub lines_are : b.lines ≡ map (line_of means m rs es) ps
  pub fund_is : b.fund ≡ n
  pub rising : Rising by_number ps
  pub numbered : (k : ℕ) → has by_number k ps ≡ true → k ≤ 1023
  -- a number that is not enrolled has no events and no readings
  pub clean : (p : Enrolment) → has by_number p.number ps ≡ false → line_of means m rs es p ≡ blank p
  pub located : Located ws es
  pub falling : Falling (length ws) es
  -- the journal gives each party what its events are worth
  pub scanned : (p : Enrolment) → by_word means m p (this_month ws) ≡ worth_of means m p es

-- no test holds
abbrev pub Clear : List Check → Type 0
Clear [] = Unit {0}
Clear (c ∷ cs) = (c.1 ≡ false) × Clear cs

clear_one : (r : Refusal) (t : Bool) (o : Option Refusal) → cond t (Some r) o ≡ None → (t ≡ false) × (o ≡ None)
clear_one r true o h = (cc, cc)
clear_one r false o h = (refl, h)

pub clear : (cs : List Check) → first_of cs ≡ None → Clear cs
clear [] h = tt
clear (c ∷ cs) h = let p = clear_one c.0 c.1 (first_of cs) h in (p.0, clear cs p.1)

either : {A B C : Type 0} → A ⊎ B → (A → C) → (B → C) → C
either (inl a) f g = f a
either (inr b) f g = g b

pub map_map : {A B C : Type 0} (f : B → C) (g : A → B) (xs : List A) → map f (map g xs) ≡ map (λ x. f (g x)) xs
map_map f g [] = refl
map_map f g (x ∷ xs) = ap (λ r. f (g x) ∷ r) (map_map f g xs)

module _ (means : Rulebook) (m : ℕ) (ps : List Enrolment) (rs : List Reading) (es : List Placed) (ws : List ℕ) (n : ℕ) (b : Book) (i : Inv means m ps rs es ws n b) where
  has_line : (k : ℕ) → has number k b.lines ≡ has by_number k ps
  has_line k = ap (has number k) i.lines_are ∙ has_drawn (λ p. worth_of means m p es) (λ p. passed p rs) (λ p. magnitude p rs) (λ p. running_slots p rs) k ps

  pub kept_enrol : (room : Room) (k : ℕ) (p : Enrolment) → first_of (enrol_checks room p.number k p.capacity b) ≡ None → Inv means m (entered by_number p ps) rs es ws n (enrol p b)
  kept_enrol room k p free =
      let c = clear (enrol_checks room p.number k p.capacity b) free in
      let new-here : has by_number p.number ps ≡ false = sym (has_line p.number) ∙ c.1.0 in
      let small : p.number ≤ 1023 = leb-true p.number 1023 (and_parts _ _ (and_parts _ _ (and_parts _ _ (not-false _ c.0)).0).0).1 in
      record {
        month_is = i.month_is;
        used_is = i.used_is;
        words_are = i.words_are;
        lines_are = ap₂ (λ x ls. entered number x ls) (sym (i.clean p new-here)) i.lines_are
            ∙ entered_drawn (λ p. worth_of means m p es) (λ p. passed p rs) (λ p. magnitude p rs) (λ p. running_slots p rs) p ps;
        fund_is = i.fund_is;
        rising = rising_entered p ps new-here i.rising;
        numbered = λ k h. either (or_cases (eqb p.number k) (has by_number k ps) (sym (has_entered k p ps) ∙ h))
            (λ e. (let same = eqb-true p.number k e in omega (arith, small))) (λ e. i.numbered k e);
        clean = λ q h. i.clean q (or_parts (eqb p.number q.number) (has by_number q.number ps) (sym (has_entered q.number p ps) ∙ h)).1;
        located = i.located;
        falling = i.falling;
        scanned = i.scanned;
      }

  apart : (p : Enrolment) (k : ℕ) → has by_number p.number ps ≡ false → has by_number k ps ≡ true → p.number ≡ k → ⊥
  apart p k h y e = both_ways (has by_number k ps) (subst (λ j. has by_number j ps ≡ false) e h) y

  module _ (r : Reading) where
    read_at : (p : Enrolment) → p.number ≡ r.party → take_reading r (line_of means m rs es p) ≡ line_of means m (r ∷ rs) es p
    read_at p e = ap (λ t. record {
      party = p;
      sums = worth_of means m p es;
      passed = cond t (r.slot + 1) (passed p rs);
      magnitude = cond t (magnitude p rs + nat_abs r.power) (magnitude p rs);
      running = cond t (running_slots p rs + runs p r.power) (running_slots p rs);
    }) (sym (eq-eqb r.party p.number (sym e)))

    read_off : (p : Enrolment) → (p.number ≡ r.party → ⊥) → line_of means m rs es p ≡ line_of means m (r ∷ rs) es p
    read_off p e = ap (λ t. record {
      party = p;
      sums = worth_of means m p es;
      passed = cond t (r.slot + 1) (passed p rs);
      magnitude = cond t (magnitude p rs + nat_abs r.power) (magnitude p rs);
      running = cond t (running_slots p rs + runs p r.power) (running_slots p rs);
    }) (sym (ne_eqb r.party p.number (λ q. e (sym q))))

    pub kept_read : first_of (read_checks r b) ≡ None → Inv means m ps (r ∷ rs) es ws n (read r b)
    kept_read free =
        let known : has by_number r.party ps ≡ true = sym (has_line r.party) ∙ not-false _ (clear (read_checks r b) free).0 in
        record {
          month_is = i.month_is;
          used_is = i.used_is;
          words_are = i.words_are;
          lines_are = ap (changed number r.party (take_reading r)) i.lines_are
              ∙ changed_drawn (λ p. worth_of means m p es) (λ p. passed p rs) (λ p. magnitude p rs) (λ p. running_slots p rs)
              r.party (take_reading r) (line_of means m (r ∷ rs) es) read_at read_off ps i.rising;
          fund_is = i.fund_is;
          rising = i.rising;
          numbered = i.numbered;
          clean = λ p h. sym (read_off p (apart p r.party h known)) ∙ i.clean p h;
          located = i.located;
          falling = i.falling;
          scanned = i.scanned;
        }

  module _ (e : Placed) where
    post_at : (p : Enrolment) → p.number ≡ e.event.party → charge means m e.event (line_of means m rs es p) ≡ line_of means m rs (e ∷ es) p
    post_at p q = ap (λ t. record {
      party = p;
      sums = cond t (worth_of means m p es plus means (facts p m e.event)) (worth_of means m p es);
      passed = passed p rs;
      magnitude = magnitude p rs;
      running = running_slots p rs;
    }) (sym (eq-eqb e.event.party p.number (sym q)))

    post_off : (p : Enrolment) → (p.number ≡ e.event.party → ⊥) → line_of means m rs es p ≡ line_of means m rs (e ∷ es) p
    post_off p q = ap (λ t. record {
      party = p;
      sums = cond t (worth_of means m p es plus means (facts p m e.event)) (worth_of means m p es);
      passed = passed p rs;
      magnitude = magnitude p rs;
      running = running_slots p rs;
    }) (sym (ne_eqb e.event.party p.number (λ u. q (sym u))))

    pub fits_post : (room : Room) → first_of (post_checks means room e.event b) ≡ None → Fits e.event
    fits_post room free =
        let c = clear (post_checks means room e.event b) free in
        let may = postable b.month e.event c.1.1.0 in
        record {
          party = i.numbered e.event.party (sym (has_line e.event.party) ∙ not-false _ c.1.0);
          service = may.service;
          slot = omega (arith, may.slot, days_within b.month);
          x = may.x;
          y = may.y;
        }

    pub kept_post : (room : Room) → e.place ≡ b.used → first_of (post_checks means room e.event b) ≡ None → Inv means m ps rs (e ∷ es) (ws ++ event_words e.event) n (post means e.event b)
    kept_post room place free =
        let c = clear (post_checks means room e.event b) free in
        let known : has by_number e.event.party ps ≡ true = sym (has_line e.event.party) ∙ not-false _ c.1.0 in
        let at-end : e.place ≡ length ws = place ∙ i.used_is in
        let fits : Fits e.event = fits_post room free in
        record {
          month_is = i.month_is;
          used_is = ap (λ x. x + length (event_words e.event)) i.used_is ∙ sym (length-append ws (event_words e.event));
          words_are = ap (λ x. x ++ event_words e.event) i.words_are;
          lines_are = ap₂ (λ mm ls. changed number e.event.party (charge means mm e.event) ls) i.month_is i.lines_are
              ∙ changed_drawn (λ p. worth_of means m p es) (λ p. passed p rs) (λ p. magnitude p rs) (λ p. running_slots p rs)
              e.event.party (charge means m e.event) (line_of means m rs (e ∷ es)) post_at post_off ps i.rising;
          fund_is = i.fund_is;
          rising = i.rising;
          numbered = i.numbered;
          clean = λ p h. sym (post_off p (apart p e.event.party h known)) ∙ i.clean p h;
          located = located_post ws es e at-end fits i.located;
          falling = (omega (arith, at-end, length-append ws (event_words e.event)), subst (λ k. Falling k es) (sym at-end) i.falling);
          scanned = λ p. scanned_post means m p ws es e fits i.located (i.scanned p);
        }

  pub kept_pay_in : (room : Room) (amount : ℕ) → first_of (pay_in_checks room amount b) ≡ None → Inv means m ps rs es (ws ++ (word 5 amount ∷ [])) (n + amount) (pay_in amount b)
  kept_pay_in room amount free =
      let c = clear (pay_in_checks room amount b) free in
      let small : amount ≤ 500_000_000 = leb-true amount 500_000_000 (and_parts (leb 1 amount) (leb amount 500_000_000) (not-false _ c.1.0)).1 in
      let five : kind (word 5 amount) ≡ 5 = omega arith in
      record {
        month_is = i.month_is;
        used_is = ap (λ x. x + 1) i.used_is ∙ sym (length-append ws (word 5 amount ∷ []));
        words_are = ap (λ x. x ++ (word 5 amount ∷ [])) i.words_are;
        lines_are = i.lines_are;
        fund_is = ap (λ x. x + amount) i.fund_is;
        rising = i.rising;
        numbered = i.numbered;
        clean = i.clean;
        located = located_push ws es (word 5 amount) (λ e. omega arith) (ne_eqb _ _ (λ e. omega arith)) i.located;
        falling = falling_more (length ws) (length (ws ++ (word 5 amount ∷ []))) es (omega (arith, length-append ws (word 5 amount ∷ []))) i.falling;
        scanned = λ p. scanned_push means m p ws es (word 5 amount) (λ e. omega arith) (ne_eqb _ _ (λ e. omega arith)) i.located (i.scanned p);
      }

  pub kept_object : (place : ℕ) → Inv means m ps rs es ws n (object place b)
  kept_object place = record {
    month_is = i.month_is;
    used_is = i.used_is;
    words_are = i.words_are;
    lines_are = i.lines_are;
    fund_is = i.fund_is;
    rising = i.rising;
    numbered = i.numbered;
    clean = i.clean;
    located = i.located;
    falling = i.falling;
    scanned = i.scanned;
  }

  pub kept_dismiss : (place : ℕ) → Inv means m ps rs es ws n (dismiss place b)
  kept_dismiss place = record {
    month_is = i.month_is;
    used_is = i.used_is;
    words_are = i.words_are;
    lines_are = i.lines_are;
    fund_is = i.fund_is;
    rising = i.rising;
    numbered = i.numbered;
    clean = i.clean;
    located = i.located;
    falling = i.falling;
    scanned = i.scanned;
  }

  module _ (place : ℕ) (at : At ws es place) where
    strike_at : (p : Enrolment) → p.number ≡ (event_at place ws).party → take_off means m (event_at place ws) (line_of means m rs es p) ≡ line_of means m rs (without place es) p
    strike_at p q = ap (λ s. record { party = p; sums = s; passed = passed p rs; magnitude = magnitude p rs; running = running_slots p rs })
        (worth_struck means m p (length ws) place es (placed_at place ws) i.falling at.is (sym q))

    strike_off : (p : Enrolment) → (p.number ≡ (event_at place ws).party → ⊥) → line_of means m rs es p ≡ line_of means m rs (without place es) p
    strike_off p q = ap (λ s. record { party = p; sums = s; passed = passed p rs; magnitude = magnitude p rs; running = running_slots p rs })
        (sym (worth_other means m p (length ws) place es (placed_at place ws) i.falling at.is (λ u. q (sym u))))

    nothing_less : (a : Answer) → nothing less a ≡ nothing
    nothing_less a = same_sums (nothing less a) nothing (omega arith) (omega arith) (omega arith) (omega arith)

    strike_clean : (p : Enrolment) → has by_number p.number ps ≡ false → line_of means m rs (without place es) p ≡ blank p
    strike_clean p h =
        let c = i.clean p h in
        either (cases_eq p.number (event_at place ws).party)
        (λ q. sym (strike_at p q) ∙ ap (take_off means m (event_at place ws)) c
        ∙ ap (λ s. record { party = p; sums = s; passed = 0; magnitude = 0; running = 0 }) (nothing_less (means (facts p m (event_at place ws)))))
        (λ q. sym (strike_off p q) ∙ c)

    kept_strike : month_start ws ≤ place → kind (get_or ws place 0) ≡ 1 → Inv means m ps rs (without place es) (struck place ws) n (uphold means place b)
    kept_strike from one = record {
      month_is = i.month_is;
      used_is = i.used_is ∙ sym (length-set ws place (word 2 (content (get_or ws place 0))));
      words_are = ap (struck place) i.words_are;
      lines_are = (λ j. changed number (event_at place (i.words_are j)).party (take_off means (i.month_is j) (event_at place (i.words_are j))) (i.lines_are j))
          ∙ changed_drawn (λ p. worth_of means m p es) (λ p. passed p rs) (λ p. magnitude p rs) (λ p. running_slots p rs)
          (event_at place ws).party (take_off means m (event_at place ws)) (line_of means m rs (without place es)) strike_at strike_off ps i.rising;
      fund_is = i.fund_is;
      rising = i.rising;
      numbered = i.numbered;
      clean = strike_clean;
      located = located_strike ws es place one (omega (arith, at.inside)) i.located;
      falling = falling_without (length (struck place ws)) place es (falling_more (length ws) (length (struck place ws)) es (omega (arith, length-set ws place (word 2 (content (get_or ws place 0))))) i.falling);
      scanned = λ p. scanned_strike means m p (length ws) ws es place from one i.located i.falling (i.scanned p);
    }

  pub kept_uphold : (room : Room) (place : ℕ) → first_of (answer_checks means room place true b) ≡ None → Inv means m ps rs (without place es) (struck place ws) n (uphold means place b)
  kept_uphold room place free =
      let c = clear (answer_checks means room place true b) free in
      let can : can_strike means place b ≡ true = not-false _ c.1.1.0 in
      let stood : standing_at place ws ≡ true = ap (standing_at place) (sym i.words_are) ∙ (and_parts _ _ can).0 in
      let from : month_start ws ≤ place = leb-true _ _ (and_parts _ _ stood).0 in
      let one : kind (get_or ws place 0) ≡ 1 = eqb-true _ _ (and_parts _ _ (and_parts _ _ stood).1).0 in
      kept_strike place (i.located place from one) from one

  pub kept_settle : (room : Room) (s : Reckoning) → Settles b s → first_of (settle_checks room b) ≡ None → Inv means (m + 1) ps [] [] (ws ++ (word 6 m ∷ [])) s.left (settle b)
  kept_settle room s right free =
      let c = clear (settle_checks room b) free in
      let early : b.month < last_month = leb-false last_month b.month c.1.1.0 in
      let six : kind (word 6 m) ≡ 6 = omega (arith, i.month_is) in
      record {
        month_is = ap (λ x. x + 1) i.month_is;
        used_is = ap (λ x. x + 1) i.used_is ∙ sym (length-append ws (word 6 m ∷ []));
        words_are = ap₂ (λ x y. x ++ (word 6 y ∷ [])) i.words_are i.month_is;
        lines_are = ap (map (λ l. blank l.party)) i.lines_are ∙ map_map (λ l. blank l.party) (line_of means m rs es) ps;
        fund_is = sym right.left_is;
        rising = i.rising;
        numbered = i.numbered;
        clean = λ p h. refl;
        located = located_end ws (word 6 m) (eq-eqb _ _ six);
        falling = tt;
        scanned = λ p. scanned_end means (m + 1) p ws (word 6 m) (eq-eqb _ _ six);
      }

-- in a settling that is accepted, something is shared only where there is a weight
pub weighed : (room : Room) (b : Book) → first_of (settle_checks room b) ≡ None → lacks_weight b.month b.lines b.fund ≡ false
weighed room b free = (clear (settle_checks room b) free).1.1.1.1.0

-- where a what-if is accepted, a standing event's first word is at the place
pub stood : (room : Room) (place : ℕ) (b : Book) → first_of (what_if_checks room place b) ≡ None →
    (month_start b.words ≤ place) × (kind (get_or b.words place 0) ≡ 1)
stood room place b free =
    let c = clear (what_if_checks room place b) free in
    let one : kind_at 1 place b.words ≡ true =
    either (or_cases (kind_at 1 place b.words) (kind_at 2 place b.words) (not-false _ c.1.0)) (λ h. h) (λ h. absurd (both_ways _ c.1.1.0 h)) in
    let both = and_parts (leb (month_start b.words) place) (eqb (kind (get_or b.words place 0)) 1) one in
    (leb-true _ _ both.0, eqb-true _ _ both.1)
