-- Every run keeps the book within its limits, call by call. Assumes nothing.
use Rattle.std.proofs.Common.{◌≡◌, ℕ, ◌+◌, ◌<◌, ◌≤◌, min, true, false, ◌&&◌, leb, [], ◌∷◌, length, get_or, is_some, Some, None, Option, sym, refl, ap, ◌∙◌, subst, arith}
use Rattle.std.proofs.lemmas.Bool.{ltb-false, leb-true, leb-false, and_parts, not-false, both_ways}
use Rattle.std.proofs.ByRecursion.{All-append}
use Rattle.std.proofs.lemmas.List.{length-append, length-set, length-map}
use Rattle.std.specs.List.{AllByRecursion}
use Rattle.rules.specs.Answers.{Rulebook}
use Rattle.rules.specs.Calendar.{last_month, count}
use Rattle.settlement.specs.Registers.{found, changed}
use Rattle.records.specs.declared.enrolment.Enrolment.{Enrolment}
use Rattle.billing.specs.declared.reading.Reading.{Reading}
use Rattle.records.specs.declared.event.Event.{Event}
use Rattle.records.specs.Asking.{facts}
use Rattle.records.specs.Words.{word, content, event_words}
use Rattle.records.specs.Journal.{event_at}
use Rattle.billing.specs.Lines.{Line, blank, number, take_reading, fits}
use Rattle.rules.specs.Kinds.{kind_of}
use Rattle.settlement.specs.Book.{place_of, Book, new_book, Room}
use Rattle.billing.specs.Bills.{sums_over}
use Rattle.settlement.specs.Checks.{first_of}
use Rattle.settlement.specs.Enrolling.{new_checks, enrol_checks, enrol, read_checks, cannot_take, has_passed, read}
use Rattle.settlement.specs.Posting.{asked, overflows, is_refused, post_checks, charge, post, pay_in_checks, pay_in}
use Rattle.settlement.specs.Objecting.{object_checks, object, take_off, uphold, dismiss}
use Rattle.settlement.specs.Settling.{settle_checks, settle}
use Rattle.book.specs.Limits.{PartyFits, SumsFit}
use Rattle.book.proofs.Wording.{Fits}
use Rattle.book.proofs.Limiting.{all_entered, all_changed, length_entered, length_changed, length_removed, all_set, days_within, allowed, Framed, framed_reading, framed_blank, sums_charged, sums_taken, sums_read, sums_entered, sums_blank, plus_fits, words_fit}
use Rattle.book.proofs.Keeping.{clear}

pub record Held (b : Book) : Type 0 where
  pub used_is : b.used ≡ length b.words
  pub month_low : 24_000 ≤ b.month
  pub month_high : b.month ≤ 25_199
  pub words : AllByRecursion (λ w. w < 4_294_967_296) b.words
  pub words_used : length b.words ≤ 1_048_576
  pub lines : AllByRecursion Framed b.lines
  pub parties : length b.lines ≤ 64
  pub objections : length b.objections ≤ 16
  pub sums : SumsFit (sums_over b.lines)
  pub fund : b.fund ≤ 40_000_000_000

pub held_new : (year month : ℕ) → first_of (new_checks year month) ≡ None → Held (new_book (count year month))
held_new year month free =
    let c = not-false _ (clear (new_checks year month) free).0 in
    let y = and_parts (leb 2000 year && leb year 2099) (leb 1 month && leb month 12) c in
    let y1 : 2000 ≤ year = leb-true 2000 year (and_parts (leb 2000 year) (leb year 2099) y.0).0 in
    let y2 : year ≤ 2099 = leb-true year 2099 (and_parts (leb 2000 year) (leb year 2099) y.0).1 in
    let m1 : 1 ≤ month = leb-true 1 month (and_parts (leb 1 month) (leb month 12) y.1).0 in
    let m2 : month ≤ 12 = leb-true month 12 (and_parts (leb 1 month) (leb month 12) y.1).1 in
    record {
      used_is = refl;
      month_low = omega arith;
      month_high = omega arith;
      words = tt;
      words_used = omega arith;
      lines = tt;
      parties = omega arith;
      objections = omega arith;
      sums = record { charges = omega arith; first = omega arith; second = omega arith; third = omega arith };
      fund = omega arith;
    }

module _ (b : Book) (h : Held b) where
  pub held_enrol : (room : Room) (k : ℕ) (p : Enrolment) → first_of (enrol_checks room p.number k p.capacity b) ≡ None → Held (enrol p b)
  held_enrol room k p free =
      let c = clear (enrol_checks room p.number k p.capacity b) free in
      let r = and_parts _ _ (and_parts (fits p.number p.capacity) (is_some (kind_of k)) (not-false _ c.0)).0 in
      let full : length b.lines < min 64 room.roster = leb-false (min 64 room.roster) (length b.lines) c.1.1.0 in
      let within : PartyFits p = record {
        number_low = leb-true _ _ (and_parts _ _ r.0).0;
        number_high = leb-true _ _ (and_parts _ _ r.0).1;
        capacity_low = leb-true _ _ (and_parts _ _ r.1).0;
        capacity_high = leb-true _ _ (and_parts _ _ r.1).1;
      } in
      record {
        used_is = h.used_is;
        month_low = h.month_low;
        month_high = h.month_high;
        words = h.words;
        words_used = h.words_used;
        lines = all_entered number Framed (blank p) b.lines (record { party = within; passed = omega arith; magnitude = omega arith; running = omega arith }) h.lines;
        parties = omega (arith, full, length_entered number (blank p) b.lines);
        objections = h.objections;
        sums = subst SumsFit (sym (sums_entered p b.lines)) h.sums;
        fund = h.fund;
      }

  pub held_read : (r : Reading) → first_of (read_checks r b) ≡ None → Held (read r b)
  held_read r free =
      let c = clear (read_checks r b) free in
      record {
        used_is = h.used_is;
        month_low = h.month_low;
        month_high = h.month_high;
        words = h.words;
        words_used = h.words_used;
        lines = all_changed number Framed r.party (take_reading r) b.lines
            (λ l e f. (
            let fits = allowed b.month l.party.kind r (sym (ap (cannot_take b.month r) e) ∙ c.1.0) in
            let later : l.passed ≤ r.slot = ltb-false _ _ (sym (ap (has_passed r) e) ∙ c.1.1.0) in
            framed_reading r l (omega (arith, fits.slot, days_within b.month)) fits.power later f
            )) h.lines;
        parties = omega (arith, h.parties, length_changed number r.party (take_reading r) b.lines);
        objections = h.objections;
        sums = subst SumsFit (sym (sums_read r.party r b.lines)) h.sums;
        fund = h.fund;
      }

  pub held_post : (means : Rulebook) (room : Room) (e : Event) → Fits e → first_of (post_checks means room e b) ≡ None → Held (post means e b)
  held_post means room e small free =
      let c = clear (post_checks means room e b) free in
      let room-left : b.used + 3 ≤ min room.journal 1_048_576 = ltb-false (min room.journal 1_048_576) (b.used + 3) c.1.1.1.1.1.1.0 in
      record {
        used_is = ap (λ x. x + length (event_words e)) h.used_is ∙ sym (length-append b.words (event_words e));
        month_low = h.month_low;
        month_high = h.month_high;
        words = All-append (λ w. w < 4_294_967_296) b.words (event_words e) h.words (words_fit e small);
        words_used = omega (arith, room-left, h.used_is, length-append b.words (event_words e));
        lines = all_changed number Framed e.party (charge means b.month e) b.lines
            (λ l q f. record { party = f.party; passed = f.passed; magnitude = f.magnitude; running = f.running }) h.lines;
        parties = omega (arith, h.parties, length_changed number e.party (charge means b.month e) b.lines);
        objections = h.objections;
        sums = go (found number e.party b.lines) refl c.1.1.1.1.0 c.1.1.1.1.1.0;
        fund = h.fund;
      }
    where
      go : (o : Option Line) → found number e.party b.lines ≡ o → is_refused (asked means b.month e (found number e.party b.lines)) ≡ false →
          overflows (asked means b.month e (found number e.party b.lines)) b ≡ false →
          SumsFit (sums_over (changed number e.party (charge means b.month e) b.lines))
      go None q r o = absurd (both_ways true (sym (ap (λ x. is_refused (asked means b.month e x)) q) ∙ r) refl)
      go (Some l) q r o =
          subst SumsFit (sym (sums_charged means b.month e e.party b.lines l q))
          (plus_fits (sums_over b.lines) (means (facts l.party b.month e)) h.sums
          (λ c u. ltb-false 40_000_000_000 _ (sym (ap (λ x. overflows x b) (ap (asked means b.month e) q ∙ u)) ∙ o)))

  pub held_pay_in : (room : Room) (amount : ℕ) → first_of (pay_in_checks room amount b) ≡ None → Held (pay_in amount b)
  held_pay_in room amount free =
      let c = clear (pay_in_checks room amount b) free in
      let small : amount ≤ 500_000_000 = leb-true amount 500_000_000 (and_parts (leb 1 amount) (leb amount 500_000_000) (not-false _ c.1.0)).1 in
      let held : b.fund + amount ≤ 40_000_000_000 = ltb-false 40_000_000_000 (b.fund + amount) c.1.1.0 in
      let room-left : b.used + 1 ≤ min room.journal 1_048_576 = ltb-false (min room.journal 1_048_576) (b.used + 1) c.1.1.1.0 in
      record {
        used_is = ap (λ x. x + 1) h.used_is ∙ sym (length-append b.words (word 5 amount ∷ []));
        month_low = h.month_low;
        month_high = h.month_high;
        words = All-append (λ w. w < 4_294_967_296) b.words (word 5 amount ∷ []) h.words (omega (arith, small), tt);
        words_used = omega (arith, room-left, h.used_is, length-append b.words (word 5 amount ∷ []));
        lines = h.lines;
        parties = h.parties;
        objections = h.objections;
        sums = h.sums;
        fund = held;
      }

  pub held_object : (room : Room) (place : ℕ) → first_of (object_checks room place b) ≡ None → Held (object place b)
  held_object room place free =
      let c = clear (object_checks room place b) free in
      let full : length b.objections < min 16 room.objecting = leb-false (min 16 room.objecting) (length b.objections) c.1.1.1.1.0 in
      record {
        used_is = h.used_is;
        month_low = h.month_low;
        month_high = h.month_high;
        words = h.words;
        words_used = h.words_used;
        lines = h.lines;
        parties = h.parties;
        objections = omega (arith, full, length_entered place_of (record { place = place; waiting = true }) b.objections);
        sums = h.sums;
        fund = h.fund;
      }

  pub held_dismiss : (place : ℕ) → Held (dismiss place b)
  held_dismiss place = record {
    used_is = h.used_is;
    month_low = h.month_low;
    month_high = h.month_high;
    words = h.words;
    words_used = h.words_used;
    lines = h.lines;
    parties = h.parties;
    objections = omega (arith, h.objections, length_changed place_of place (λ o. record { place = o.place; waiting = false }) b.objections);
    sums = h.sums;
    fund = h.fund;
  }

  pub held_uphold : (means : Rulebook) (place : ℕ) → Held (uphold means place b)
  held_uphold means place =
      let e = event_at place b.words in
      let less = sums_taken means b.month e e.party b.lines h.sums in
      let s = h.sums in
      record {
        used_is = h.used_is ∙ sym (length-set b.words place (word 2 (content (get_or b.words place 0))));
        month_low = h.month_low;
        month_high = h.month_high;
        words = all_set (λ w. w < 4_294_967_296) b.words place (word 2 (content (get_or b.words place 0))) h.words (omega arith);
        words_used = omega (arith, h.words_used, length-set b.words place (word 2 (content (get_or b.words place 0))));
        lines = all_changed number Framed e.party (take_off means b.month e) b.lines
            (λ l q f. record { party = f.party; passed = f.passed; magnitude = f.magnitude; running = f.running }) h.lines;
        parties = omega (arith, h.parties, length_changed number e.party (take_off means b.month e) b.lines);
        objections = omega (arith, h.objections, length_removed place_of place b.objections);
        sums = record { charges = omega (arith, less.charges, s.charges); first = omega (arith, less.first, s.first); second = omega (arith, less.second, s.second); third = omega (arith, less.third, s.third) };
        fund = h.fund;
      }

  pub held_settle : (room : Room) → first_of (settle_checks room b) ≡ None → Held (settle b)
  held_settle room free =
      let c = clear (settle_checks room b) free in
      let early : b.month < last_month = leb-false last_month b.month c.1.1.0 in
      let room-left : b.used + 1 ≤ min room.journal 1_048_576 = ltb-false (min room.journal 1_048_576) (b.used + 1) c.1.1.1.1.1.0 in
      record {
        used_is = ap (λ x. x + 1) h.used_is ∙ sym (length-append b.words (word 6 b.month ∷ []));
        month_low = omega (arith, h.month_low);
        month_high = omega arith;
        words = All-append (λ w. w < 4_294_967_296) b.words (word 6 b.month ∷ []) h.words (omega arith, tt);
        words_used = omega (arith, room-left, h.used_is, length-append b.words (word 6 b.month ∷ []));
        lines = framed_blank b.lines h.lines;
        parties = omega (arith, h.parties, length-map b.lines (λ l. blank l.party));
        objections = omega arith;
        sums = subst SumsFit (sym (sums_blank b.lines)) (record { charges = omega arith; first = omega arith; second = omega arith; third = omega arith });
        fund = omega (arith, h.fund);
      }
