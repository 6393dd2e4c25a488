-- Text after text on a page. Assumes nothing.
use Rattle.std.proofs.Common.{◌≡◌, ℕ, ◌+◌, ◌<◌, List, ◌∷◌, [], ◌++◌, length, get_or, take, drop, Ok, Err, Result, sym, refl, ap, ap₂, ◌∙◌, subst, append_assoc, add-zero, codes, decimal, min, arith}
use Rattle.std.proofs.lemmas.List.{take_min, take_at, drop_at, drop-drop, length-append, length-take-le, take-append-drop, flat_map_more, take_more}
use Rattle.std.proofs.lemmas.Grind.{flat_map-append}
use Rattle.std.specs.List.{flat_map}
use Rattle.console.specs.declared.page.Page.{Page}
use Rattle.console.specs.declared.page.NoRoom.{NoRoom}
use Rattle.billing.specs.declared.bill.Bill.{Bill}
use Rattle.settlement.specs.declared.settlement.Tally.{Tally}
use Rattle.book.specs.declared.answer.Reply.TheVariants.{Settled}
use Rattle.console.specs.Answers.{field, sums, net, line, lines, text}
use Rattle.console.specs.Pages.{bytes, Sound, Put, Wrote}

-- the written front of a page, and what lies past it
front : (s : List ℕ) (p q : Page) → Sound p → Put s p q
    → (take q.used (bytes q) ≡ take p.used (bytes p) ++ s) × (drop q.used (bytes q) ≡ drop q.used (bytes p))
front s p q h w =
    let before = bytes p in
    let e : bytes q ≡ (take p.used before ++ s) ++ drop (p.used + length s) before = w.text h ∙ sym (append_assoc (take p.used before) s _) in
    let n : length (take p.used before ++ s) ≡ q.used =
    length-append (take p.used before) s ∙ omega (arith, length-take-le p.used before h, w.end) in (
      ap (take q.used) e ∙ take_at (take p.used before ++ s) (drop (p.used + length s) before) q.used n,
      ap (drop q.used) e ∙ drop_at (take p.used before ++ s) (drop (p.used + length s) before) q.used n ∙ ap (λ k. drop k before) (sym w.end),
    )

put_more : (s t : List ℕ) (p m q : Page) → length (bytes m) ≡ length (bytes p) → Put s p m → Put t m q → Put (s ++ t) p q
put_more s t p m q long w v =
    record { room = λ h. omega (arith, n, v.room (sound h), w.end, long); text = text; end = omega (arith, n, w.end, v.end); full = v.full ∙ w.full }
  where
    before : List ℕ
    before = bytes p

    n : length (s ++ t) ≡ length s + length t
    n = length-append s t

    sound : Sound p → Sound m
    sound h = omega (arith, w.room h, w.end, long)

    text : Sound p → bytes q ≡ take p.used before ++ ((s ++ t) ++ drop (p.used + length (s ++ t)) before)
    text h =
        let halves = front s p m h w in
        let back : drop (m.used + length t) (bytes m) ≡ drop (p.used + length (s ++ t)) before =
        sym (drop-drop (length t) m.used (bytes m)) ∙ ap (drop (length t)) halves.1 ∙ drop-drop (length t) m.used before
        ∙ ap (λ k. drop k before) (omega (arith, w.end, n)) in
        v.text (sound h) ∙ ap (λ f. f ++ (t ++ drop (m.used + length t) (bytes m))) halves.0
        ∙ ap (λ b. (take p.used before ++ s) ++ (t ++ b)) back
        ∙ append_assoc (take p.used before) s (t ++ drop (p.used + length (s ++ t)) before)
        ∙ ap (λ b. take p.used before ++ b) (sym (append_assoc s t (drop (p.used + length (s ++ t)) before)))

-- one text after another
pub wrote_more : (s t : List ℕ) {p m q : Page} {r : Result (Unit {0}) NoRoom} → Wrote s p (Ok tt) m → Wrote t m r q → Wrote (s ++ t) p r q
wrote_more s t {p = p} {m = m} {q = q} {r = Ok _} w v =
    record { outcome = put_more s t p m q w.long w.outcome v.outcome; sound = λ h. v.sound (w.sound h); long = v.long ∙ w.long; lent = v.lent ∙ w.lent }
wrote_more s t {p = p} {m = m} {q = q} {r = Err _} w v =
    let first = w.outcome in
    record {
      outcome = record { reason = λ h. omega (arith, length-append s t, v.outcome.reason (first.full ∙ h), first.end, w.long); full = v.outcome.full };
      sound = λ h. v.sound (w.sound h);
      long = v.long ∙ w.long;
      lent = v.lent ∙ w.lent;
    }

-- a text whose front has no room
pub wrote_refused : (s t : List ℕ) {p q : Page} {e e' : NoRoom} → Wrote s p (Err e) q → Wrote (s ++ t) p (Err e') q
wrote_refused s t w =
    record {
      outcome = record { reason = λ h. omega (arith, length-append s t, w.outcome.reason h); full = w.outcome.full };
      sound = w.sound;
      long = w.long;
      lent = w.lent;
    }

-- no text
pub wrote_none : (p : Page) → Wrote [] p (Ok tt) p
wrote_none p =
    record {
      outcome = record {
        room = λ h. omega (arith, h);
        text = λ h. sym (simp add-zero (take-append-drop p.used (bytes p)));
        end = omega arith;
        full = refl;
      };
      sound = λ h. h;
      long = refl;
      lent = refl;
    }

-- the next of several texts
pub wrote_next : {X : Type 0} (f : X → List ℕ) (xs : List X) (i : ℕ) (d : X) {p m q : Page} {r : Result (Unit {0}) NoRoom} → i < length xs
    → Wrote (flat_map f (take i xs)) p (Ok tt) m → Wrote (f (get_or xs i d)) m r q → Wrote (flat_map f (take (i + 1) xs)) p r q
wrote_next f xs i d {p} {m} {q} {r} h w v =
    let P : List ℕ → Type 0 = λ t. Wrote t p r q in
    subst P (flat_map_more f [] (take i xs) (get_or xs i d) ∙ ap (flat_map f) (sym (take_more xs i d h))) (wrote_more _ _ w v)

-- several texts of which the next has no room
pub none_next : {X : Type 0} (f : X → List ℕ) (xs : List X) (i : ℕ) (d : X) {p m q : Page} {e e' : NoRoom} → i < length xs
    → Wrote (flat_map f (take i xs)) p (Ok tt) m → Wrote (f (get_or xs i d)) m (Err e) q → Wrote (flat_map f xs) p (Err e') q
none_next f xs i d {p} {m} {q} {e} {e'} h w v =
    let P : List ℕ → Type 0 = λ t. Wrote t p (Err e') q in
    subst P (sym (flat_map-append f (take (i + 1) xs) (drop (i + 1) xs)) ∙ ap (flat_map f) (take-append-drop (i + 1) xs))
    (wrote_refused _ (flat_map f (drop (i + 1) xs)) (wrote_next f xs i d h w v))

-- numbers, and then a text
abbrev each_then : List ℕ → List ℕ → List ℕ
each_then [] t = t
each_then (n ∷ ns) t = field n ++ each_then ns t

sums_then : (ns t : List ℕ) → sums ns ++ t ≡ each_then ns t
sums_then [] t = refl
sums_then (n ∷ ns) t = append_assoc (field n) (sums ns) t ∙ ap (λ u. field n ++ u) (sums_then ns t)

-- the line of a bill has its number, six numbers and its net
pub bill_line : (b : Bill) (n : ℕ) → n ≡ b.number → decimal n ++ (sums (b.charge ∷ b.pay ∷ b.first ∷ b.second ∷ b.third ∷ b.returned ∷ []) ++ (net b.net ++ (10 ∷ []))) ≡ line b
bill_line b n e = ap₂ (λ k t. decimal k ++ t) e (sums_then (b.charge ∷ b.pay ∷ b.first ∷ b.second ∷ b.third ∷ b.returned ∷ []) (net b.net ++ (10 ∷ [])))

-- the bills of a settling stand after the line of its tally
pub settled_text : (t : Tally) (sheet : List Bill) (r n : ℕ) → r ≡ t.rows → n ≡ min t.rows (length sheet) →
    (codes "ok" ++ (sums (r ∷ t.left ∷ []) ++ (10 ∷ []))) ++ lines (take n sheet) ≡ text (Ok (Settled t)) sheet
settled_text t sheet r n s e =
    let bills = lines (take n sheet) in
    append_assoc (codes "ok") (sums (r ∷ t.left ∷ []) ++ (10 ∷ [])) bills
    ∙ ap (λ u. codes "ok" ++ u) (append_assoc (sums (r ∷ t.left ∷ [])) (10 ∷ []) bills ∙ sums_then (r ∷ t.left ∷ []) ((10 ∷ []) ++ bills))
    ∙ ap₂ (λ k bs. codes "ok" ++ (field k ++ (field t.left ++ ((10 ∷ []) ++ lines bs)))) s (ap (λ k. take k sheet) e ∙ take_min t.rows sheet)
