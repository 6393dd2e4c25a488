-- The journal's words, and the events that they hold. Assumes nothing.
use Rattle.std.proofs.Common.{◌≡◌, ℕ, zero, suc, ◌+◌, ◌-◌, ◌*◌, ◌/◌, ◌%◌, ◌<◌, ◌≤◌, Bool, true, false, cond, ◌||◌, eqb, ◌⊎◌, List, [], ◌∷◌, ◌++◌, length, get_or, set, ℤ, pos, negsuc, nat_abs, Some, sym, refl, ap, ◌∙◌, subst, ap₂, inl, inr, arith}
use Rattle.std.proofs.lemmas.Bool.{eq-eqb, ne_eqb, cases_lt, cases_eq}
use Rattle.std.proofs.lemmas.List.{append_assoc, length-append, get_or_append_left, get_or-append_right, get_or_past, length-set, get_or-set_same, get_or-set_other}
use Rattle.std.proofs.lemmas.Int.{ints}
use Rattle.records.specs.declared.event.Event.{Event}
use Rattle.records.specs.Words.{kind, content, word, shifted, quantity, event_words, event_in}
use Rattle.records.specs.Journal.{event_at, has_end, month_start, struck}
use Rattle.book.specs.History.{Placed, without}
use Rattle.book.proofs.Strikes.{event_with, event_with_other}

or_false : (x y : Bool) → y ≡ false → (x || y) ≡ x
or_false true y h = refl
or_false false y h = h

or_true : (x y : Bool) → y ≡ true → (x || y) ≡ true
or_true true y h = refl
or_true false y h = h

has_end_push : (ws : List ℕ) (w : ℕ) → has_end (ws ++ (w ∷ [])) ≡ (has_end ws || eqb (kind w) 6)
has_end_push [] w = or_false (eqb (kind w) 6) false refl
has_end_push (v ∷ ws) w = go (eqb (kind v) 6) (has_end_push ws w)
  where
    go : (t : Bool) → has_end (ws ++ (w ∷ [])) ≡ (has_end ws || eqb (kind w) 6) → (t || has_end (ws ++ (w ∷ []))) ≡ ((t || has_end ws) || eqb (kind w) 6)
    go true ih = refl
    go false ih = ih

-- a word of another kind goes on with the month
pub month_start_push : (ws : List ℕ) (w : ℕ) → eqb (kind w) 6 ≡ false → month_start (ws ++ (w ∷ [])) ≡ month_start ws
month_start_push [] w h = ap (λ t. cond (t || false) 1 0) h
month_start_push (v ∷ ws) w h =
    let e : has_end ((v ∷ ws) ++ (w ∷ [])) ≡ has_end (v ∷ ws) = has_end_push (v ∷ ws) w ∙ or_false (has_end (v ∷ ws)) (eqb (kind w) 6) h in
    ap₂ (λ t n. cond t (suc n) 0) e (month_start_push ws w h)

-- a month's end begins the next month
pub month_start_end : (ws : List ℕ) (w : ℕ) → eqb (kind w) 6 ≡ true → month_start (ws ++ (w ∷ [])) ≡ suc (length ws)
month_start_end [] w h = ap (λ t. cond (t || false) 1 0) h
month_start_end (v ∷ ws) w h =
    let e : has_end ((v ∷ ws) ++ (w ∷ [])) ≡ true = has_end_push (v ∷ ws) w ∙ or_true (has_end (v ∷ ws)) (eqb (kind w) 6) h in
    ap₂ (λ t n. cond t (suc n) 0) e (month_start_end ws w h)

has_end_set : (ws : List ℕ) (q v : ℕ) → eqb (kind v) 6 ≡ false → eqb (kind (get_or ws q 0)) 6 ≡ false → has_end (set ws q v) ≡ has_end ws
has_end_set [] q v h k = refl
has_end_set (w ∷ ws) zero v h k = ap (λ t. t || has_end ws) (h ∙ sym k)
has_end_set (w ∷ ws) (suc q) v h k = ap (λ t. eqb (kind w) 6 || t) (has_end_set ws q v h k)

pub month_start_set : (ws : List ℕ) (q v : ℕ) → eqb (kind v) 6 ≡ false → eqb (kind (get_or ws q 0)) 6 ≡ false → month_start (set ws q v) ≡ month_start ws
month_start_set [] q v h k = refl
month_start_set (w ∷ ws) zero v h k = ap (λ t. cond (t || has_end ws) (suc (month_start ws)) 0) (h ∙ sym k)
month_start_set (w ∷ ws) (suc q) v h k =
    ap₂ (λ t n. cond t (suc n) 0) (ap (λ t. eqb (kind w) 6 || t) (has_end_set ws q v h k)) (month_start_set ws q v h k)

kind_word : (k c : ℕ) → c < 536_870_912 → kind (word k c) ≡ k
kind_word k c h = omega arith

not_six : (w k : ℕ) → kind w ≡ k → k < 6 → eqb (kind w) 6 ≡ false
not_six w k e h = ne_eqb _ _ (λ u. omega arith)

-- an event whose parts fit their bits
pub record Fits (e : Event) : Type 0 where
  pub party : e.party ≤ 1023
  pub service : e.service ≤ 31
  pub slot : e.slot < 16_384
  pub x : nat_abs e.x ≤ 4_000_000
  pub y : nat_abs e.y ≤ 4_000_000

pub shifted_small : (x : ℤ) → nat_abs x ≤ 4_000_000 → shifted x < 536_870_912
shifted_small (pos n) h = omega arith
shifted_small (negsuc n) h = omega (arith, ints)

back : (k : ℕ) (x : ℤ) → nat_abs x ≤ 4_000_000 → quantity (word k (shifted x)) ≡ x
back k (pos n) h = omega (arith, ints)
back k (negsuc n) h = omega (arith, ints)

-- what the three words of an event hold is the event
pub decoded : (e : Event) → Fits e → event_in (get_or (event_words e) 0 0) (get_or (event_words e) 1 0) (get_or (event_words e) 2 0) ≡ e
decoded e f =
    let p : content (word 1 (e.party * 524_288 + e.service * 16_384 + e.slot)) / 524_288 ≡ e.party = omega (arith, f) in
    let s : content (word 1 (e.party * 524_288 + e.service * 16_384 + e.slot)) / 16_384 % 32 ≡ e.service = omega (arith, f) in
    let t : content (word 1 (e.party * 524_288 + e.service * 16_384 + e.slot)) % 16_384 ≡ e.slot = omega (arith, f) in
    let x = back 3 e.x f.x in
    let y = back 4 e.y f.y in
    λ i. record { party = p i; service = s i; slot = t i; x = x i; y = y i }

head_kind : (e : Event) → Fits e → kind (get_or (event_words e) 0 0) ≡ 1
head_kind e f = omega (arith, f)

pub event_kinds : (e : Event) → Fits e → (kind (get_or (event_words e) 0 0) ≡ 1) × (kind (get_or (event_words e) 1 0) ≡ 3) × (kind (get_or (event_words e) 2 0) ≡ 4)
event_kinds e f =
    (head_kind e f, kind_word 3 (shifted e.x) (shifted_small e.x f.x), kind_word 4 (shifted e.y) (shifted_small e.y f.y))

-- a strike leaves the month where it began
pub month_start_struck : (ws : List ℕ) (q : ℕ) → kind (get_or ws q 0) ≡ 1 → month_start (struck q ws) ≡ month_start ws
month_start_struck ws q one =
    month_start_set ws q (word 2 (content (get_or ws q 0))) (not_six (word 2 (content (get_or ws q 0))) 2 (omega arith) (omega arith)) (not_six (get_or ws q 0) 1 one (omega arith))

-- the event whose words begin at the place, with the place
abbrev pub placed_at : ℕ → List ℕ → Placed
placed_at place ws = record { place = place; event = event_at place ws }

-- a standing event of the month at a place, as the words and the list of events have it
pub record At (ws : List ℕ) (es : List Placed) (place : ℕ) : Type 0 where
  pub is : event_with place es ≡ Some (placed_at place ws)
  pub second : kind (get_or ws (place + 1) 0) ≡ 3
  pub third : kind (get_or ws (place + 2) 0) ≡ 4
  pub inside : place + 2 < length ws

-- each standing first word of the month is that of an event of the list
abbrev pub Located : List ℕ → List Placed → Type 0
Located ws es = (place : ℕ) → month_start ws ≤ place → kind (get_or ws place 0) ≡ 1 → At ws es place

-- the same three words, and the same event in the list
at_same : (ws vs : List ℕ) (es ds : List Placed) (place : ℕ) → At ws es place → length ws ≤ length vs →
    get_or vs place 0 ≡ get_or ws place 0 → get_or vs (place + 1) 0 ≡ get_or ws (place + 1) 0 → get_or vs (place + 2) 0 ≡ get_or ws (place + 2) 0 →
    event_with place ds ≡ event_with place es → At vs ds place
at_same ws vs es ds place a l e0 e1 e2 d = record {
  is = d ∙ a.is ∙ sym (ap₂ (λ (h : ℕ) (r : ℕ × ℕ). Some (record { place = place; event = event_in h r.0 r.1 })) e0 (λ i. (e1 i, e2 i)));
  second = ap kind e1 ∙ a.second;
  third = ap kind e2 ∙ a.third;
  inside = omega (arith, a.inside);
}

-- words added at the end leave the events before them
at_append : (ws vs : List ℕ) (es ds : List Placed) (place : ℕ) → At ws es place → event_with place ds ≡ event_with place es → At (ws ++ vs) ds place
at_append ws vs es ds place a d =
    let h = a.inside in
    at_same ws (ws ++ vs) es ds place a (omega (arith, length-append ws vs))
    (get_or_append_left ws vs 0 place (omega arith)) (get_or_append_left ws vs 0 (place + 1) (omega arith)) (get_or_append_left ws vs 0 (place + 2) (omega arith)) d

one_is_not : (n : ℕ) → n ≡ 1 → (n ≡ 1 → ⊥) → ⊥
one_is_not n e h = h e

-- a word that is no event goes on with the month
pub located_push : (ws : List ℕ) (es : List Placed) (w : ℕ) → (kind w ≡ 1 → ⊥) → eqb (kind w) 6 ≡ false → Located ws es → Located (ws ++ (w ∷ [])) es
located_push ws es w n h l place from k = go (cases_lt place (length ws))
  where
    go : (place < length ws) ⊎ (length ws ≤ place) → At (ws ++ (w ∷ [])) es place
    go (inl u) =
        at_append ws (w ∷ []) es es place
        (l place (subst (λ m. m ≤ place) (month_start_push ws w h) from) (sym (ap kind (get_or_append_left ws (w ∷ []) 0 place u)) ∙ k)) refl
    go (inr u) = absurd (past (place - length ws) (sym (ap kind (get_or-append_right ws (w ∷ []) (length ws) place 0 refl u)) ∙ k))
      where
        past : (d : ℕ) → kind (get_or (w ∷ []) d 0) ≡ 1 → ⊥
        past zero e = n e
        past (suc d) e = omega arith

-- after a month's end there is no event of the month yet
pub located_end : (ws : List ℕ) (w : ℕ) → eqb (kind w) 6 ≡ true → Located (ws ++ (w ∷ [])) []
located_end ws w h place from k =
    let s = month_start_end ws w h in
    let z = get_or_past (ws ++ (w ∷ [])) place 0 (omega (arith, length-append ws (w ∷ []))) in
    absurd (omega (arith, ap kind z))

pub month_start_event : (ws : List ℕ) (e : Event) → Fits e → month_start (ws ++ event_words e) ≡ month_start ws
month_start_event ws e f =
    let a = get_or (event_words e) 0 0 in
    let b = get_or (event_words e) 1 0 in
    let c = get_or (event_words e) 2 0 in
    ap month_start (sym (append_assoc (ws ++ (a ∷ [])) (b ∷ []) (c ∷ []) ∙ append_assoc ws (a ∷ []) (b ∷ c ∷ [])))
    ∙ month_start_push (ws ++ (a ∷ []) ++ (b ∷ [])) c (not_six c 4 (kind_word 4 (shifted e.y) (shifted_small e.y f.y)) (omega arith))
    ∙ month_start_push (ws ++ (a ∷ [])) b (not_six b 3 (kind_word 3 (shifted e.x) (shifted_small e.x f.x)) (omega arith))
    ∙ month_start_push ws a (not_six a 1 (head_kind e f) (omega arith))

-- an event takes the place after the used words
pub located_post : (ws : List ℕ) (es : List Placed) (e : Placed) → e.place ≡ length ws → Fits e.event → Located ws es → Located (ws ++ event_words e.event) (e ∷ es)
located_post ws es e q f l place from k = go (cases_lt place (length ws))
  where
    new_at : (d : ℕ) → place ≡ length ws + d → kind (get_or (event_words e.event) d 0) ≡ 1 → At (ws ++ event_words e.event) (e ∷ es) place
    new_at zero u v =
        let here : e.place ≡ place = omega arith in
        let at : (j : ℕ) → get_or (ws ++ event_words e.event) (place + j) 0 ≡ get_or (event_words e.event) j 0 =
        λ j. (
        let less : place + j - length ws ≡ j = omega arith in
        get_or-append_right ws (event_words e.event) (length ws) (place + j) 0 refl (omega arith) ∙ ap (λ m. get_or (event_words e.event) m 0) less
        ) in
        let same : place ≡ place + 0 = omega arith in
        let a0 : get_or (ws ++ event_words e.event) place 0 ≡ get_or (event_words e.event) 0 0 = ap (λ m. get_or (ws ++ event_words e.event) m 0) same ∙ at 0 in
        let a1 = at 1 in
        let a2 = at 2 in
        let event : event_at place (ws ++ event_words e.event) ≡ e.event = (λ i. event_in (a0 i) (a1 i) (a2 i)) ∙ decoded e.event f in
        let read : placed_at place (ws ++ event_words e.event) ≡ e = λ i. record { place = sym here i; event = event i } in
        record {
          is = ap (λ t. cond t (Some e) (event_with place es)) (eq-eqb e.place place here) ∙ ap Some (sym read);
          second = ap kind a1 ∙ kind_word 3 (shifted e.event.x) (shifted_small e.event.x f.x);
          third = ap kind a2 ∙ kind_word 4 (shifted e.event.y) (shifted_small e.event.y f.y);
          inside = omega (arith, length-append ws (event_words e.event));
        }
    new_at (suc zero) u v = absurd (omega (arith, kind_word 3 (shifted e.event.x) (shifted_small e.event.x f.x)))
    new_at (suc (suc zero)) u v = absurd (omega (arith, kind_word 4 (shifted e.event.y) (shifted_small e.event.y f.y)))
    new_at (suc (suc (suc d))) u v = absurd (omega arith)

    go : (place < length ws) ⊎ (length ws ≤ place) → At (ws ++ event_words e.event) (e ∷ es) place
    go (inl u) =
        at_append ws (event_words e.event) es (e ∷ es) place
        (l place (subst (λ m. m ≤ place) (month_start_event ws e.event f) from) (sym (ap kind (get_or_append_left ws (event_words e.event) 0 place u)) ∙ k))
        (ap (λ t. cond t (Some e) (event_with place es)) (ne_eqb e.place place (λ w. omega arith)))
    go (inr u) =
        new_at (place - length ws) (omega arith) (sym (ap kind (get_or-append_right ws (event_words e.event) (length ws) place 0 refl u)) ∙ k)

-- a strike takes one event away
pub located_strike : (ws : List ℕ) (es : List Placed) (q : ℕ) → kind (get_or ws q 0) ≡ 1 → q < length ws → Located ws es → Located (struck q ws) (without q es)
located_strike ws es q one i l place from k = go (cases_eq place q)
  where
    v : ℕ
    v = word 2 (content (get_or ws q 0))

    start : month_start (set ws q v) ≡ month_start ws
    start = month_start_struck ws q one

    go : (place ≡ q) ⊎ (place ≡ q → ⊥) → At (set ws q v) (without q es) place
    go (inl u) =
        absurd (let z : kind (get_or (set ws q v) q 0) ≡ 1 = subst (λ m. kind (get_or (set ws q v) m 0) ≡ 1) u k in omega (arith, ap kind (get_or-set_same ws q v 0 i)))
    go (inr u) =
        let o = get_or-set_other ws q place v 0 u in
        let a = l place (subst (λ m. m ≤ place) start from) (sym (ap kind o) ∙ k) in
        let not-second : (place + 1 ≡ q → ⊥) = λ w. (let z = subst (λ m. kind (get_or ws m 0) ≡ 3) w a.second in omega arith) in
        let not_third : (place + 2 ≡ q → ⊥) = λ w. (let z = subst (λ m. kind (get_or ws m 0) ≡ 4) w a.third in omega arith) in
        at_same ws (set ws q v) es (without q es) place a (omega (arith, length-set ws q v)) o
        (get_or-set_other ws q (place + 1) v 0 not-second) (get_or-set_other ws q (place + 2) v 0 not_third) (event_with_other q place es u)
