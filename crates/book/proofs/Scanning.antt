-- The sums that the journal's words give a party are the worth of its standing events. Assumes nothing.
use Rattle.std.proofs.Common.{◌≡◌, ℕ, zero, suc, ◌+◌, ◌-◌, ◌<◌, ◌≤◌, Bool, true, false, cond, ◌&&◌, eqb, ◌⊎◌, List, [], ◌∷◌, ◌++◌, length, get_or, drop, set, Err, sym, refl, ap, ◌∙◌, subst, ap₂, inl, inr, arith}
use Rattle.std.proofs.lemmas.Bool.{eq-eqb, ne_eqb, cases_eq}
use Rattle.std.proofs.lemmas.List.{length-append, drop-append-le, drop_all, drop-set-add, get_or-drop}
use Rattle.rules.specs.declared.refusal.Refusal.{Refusal}
use Rattle.rules.specs.declared.refusal.Refusal.TheVariants.{NotCovered}
use Rattle.rules.specs.Answers.{Answer, Rulebook}
use Rattle.rules.specs.declared.sums.Sums.{Sums}
use Rattle.rules.specs.Sums.{nothing, ◌plus◌, ◌less◌}
use Rattle.records.specs.declared.enrolment.Enrolment.{Enrolment}
use Rattle.records.specs.declared.event.Event.{Event}
use Rattle.records.specs.Asking.{facts, worth}
use Rattle.records.specs.Words.{kind, content, word, event_words, event_in}
use Rattle.records.specs.Journal.{event_at, has_end, month_start, this_month, stands, standing_events, struck}
use Rattle.book.specs.History.{Placed, without, worth_of}
use Rattle.book.proofs.Strikes.{same_sums, plus_swap, plus_less, Falling, worth_without, worth_other}
use Rattle.book.proofs.Wording.{Fits, decoded, event_kinds, placed_at, At, Located, month_start_push, month_start_end, month_start_event, month_start_struck}

pub month_start_within : (ws : List ℕ) → month_start ws ≤ length ws
month_start_within [] = omega arith
month_start_within (w ∷ ws) = go (has_end (w ∷ ws)) (month_start_within ws)
  where
    go : (t : Bool) → month_start ws ≤ length ws → cond t (suc (month_start ws)) 0 ≤ suc (length ws)
    go true h = omega arith
    go false h = omega arith

-- each first word of a standing event has its quantities after it
abbrev Whole : List ℕ → Type 0
Whole [] = Unit {0}
Whole (w ∷ ws) = (kind w ≡ 1 → (2 ≤ length ws) × (kind (get_or ws 0 0) ≡ 3) × (kind (get_or ws 1 0) ≡ 4)) × Whole ws

whole_from : (ws : List ℕ) (k : ℕ) →
    ((place : ℕ) → k ≤ place → kind (get_or ws place 0) ≡ 1 → (place + 2 < length ws) × (kind (get_or ws (suc place) 0) ≡ 3) × (kind (get_or ws (suc (suc place)) 0) ≡ 4)) →
    Whole (drop k ws)
whole_from [] zero h = tt
whole_from [] (suc k) h = tt
whole_from (w ∷ ws) zero h = (
  λ e. (let f = h 0 (omega arith) e in (omega (arith, f.0), f.1, f.2)),
  whole_from ws 0 (λ place from e. (let f = h (suc place) (omega arith) e in (omega (arith, f.0), f.1, f.2))),
)
whole_from (w ∷ ws) (suc k) h =
    whole_from ws k (λ place from e. (let f = h (suc place) (omega arith) e in (omega (arith, f.0), f.1, f.2)))

located_whole : (ws : List ℕ) (es : List Placed) → Located ws es → Whole (this_month ws)
located_whole ws es l = whole_from ws (month_start ws) (λ place from e. (
    let a = l place from e in
    let one : place + 1 ≡ suc place = omega arith in
    let two : place + 2 ≡ suc (suc place) = omega arith in
    (a.inside, subst (λ k. kind (get_or ws k 0) ≡ 3) one a.second, subst (λ k. kind (get_or ws k 0) ≡ 4) two a.third)
    ))

all_stand : (a b c : ℕ) → kind a ≡ 1 → kind b ≡ 3 → kind c ≡ 4 → stands a b c ≡ true
all_stand a b c x y z = λ i. eq-eqb (kind a) 1 x i && (eq-eqb (kind b) 3 y i && eq-eqb (kind c) 4 z i)

plus_none : (s : Sums) (r : Refusal) → s plus Err r ≡ s
plus_none s r = same_sums (s plus Err r) s (omega arith) (omega arith) (omega arith) (omega arith)

plus_cancel : (s t : Sums) (a : Answer) → s plus a ≡ t plus a → s ≡ t
plus_cancel s t a e = sym (plus_less s a) ∙ ap (λ x. x less a) e ∙ plus_less t a

module _ (means : Rulebook) (m : ℕ) (p : Enrolment) where
  -- what the rulebook answers to the event that the words begin with, if it is a standing one of the party
  abbrev pub first_answer : List ℕ → Answer
  first_answer ws =
      let e : Event = event_in (get_or ws 0 0) (get_or ws 1 0) (get_or ws 2 0) in
      cond (stands (get_or ws 0 0) (get_or ws 1 0) (get_or ws 2 0) && eqb e.party p.number) (means (facts p m e)) (Err NotCovered)

  -- the worth of the standing events among the words, word by word
  abbrev pub by_word : List ℕ → Sums
  by_word [] = nothing
  by_word (w ∷ ws) = by_word ws plus first_answer (w ∷ ws)

  pub by_word_is : (ws : List ℕ) → worth means m p (standing_events ws) ≡ by_word ws
  by_word_is [] = refl
  by_word_is (w ∷ ws) = go (stands w (get_or ws 0 0) (get_or ws 1 0)) (by_word_is ws)
    where
      e : Event
      e = event_in w (get_or ws 0 0) (get_or ws 1 0)

      put_by : (t : Bool) → cond t (by_word ws plus means (facts p m e)) (by_word ws) ≡ by_word ws plus cond t (means (facts p m e)) (Err NotCovered)
      put_by true = refl
      put_by false = sym (plus_none (by_word ws) NotCovered)

      go : (t : Bool) → worth means m p (standing_events ws) ≡ by_word ws →
          worth means m p (cond t (e ∷ standing_events ws) (standing_events ws)) ≡ by_word ws plus cond (t && eqb e.party p.number) (means (facts p m e)) (Err NotCovered)
      go true ih = ap (λ x. cond (eqb e.party p.number) (x plus means (facts p m e)) x) ih ∙ put_by (eqb e.party p.number)
      go false ih = ih ∙ sym (plus_none (by_word ws) NotCovered)

  -- what an event puts on the party's sums
  abbrev its : Event → Answer
  its e = cond (eqb e.party p.number) (means (facts p m e)) (Err NotCovered)

  worth_its : (e : Event) (s : Sums) → s plus its e ≡ cond (eqb e.party p.number) (s plus means (facts p m e)) s
  worth_its e s = go (eqb e.party p.number)
    where
      go : (t : Bool) → s plus cond t (means (facts p m e)) (Err NotCovered) ≡ cond t (s plus means (facts p m e)) s
      go true = refl
      go false = plus_none s NotCovered

  skipped : (w : ℕ) (ws : List ℕ) → (kind w ≡ 1 → ⊥) → first_answer (w ∷ ws) ≡ Err NotCovered
  skipped w ws h =
      let e : Event = event_in w (get_or ws 0 0) (get_or ws 1 0) in
      ap (λ t. cond ((t && (eqb (kind (get_or ws 0 0)) 3 && eqb (kind (get_or ws 1 0)) 4)) && eqb e.party p.number) (means (facts p m e)) (Err NotCovered)) (ne_eqb (kind w) 1 h)

  taken : (w : ℕ) (ws : List ℕ) → stands w (get_or ws 0 0) (get_or ws 1 0) ≡ true → first_answer (w ∷ ws) ≡ its (event_in w (get_or ws 0 0) (get_or ws 1 0))
  taken w ws h =
      let e : Event = event_in w (get_or ws 0 0) (get_or ws 1 0) in
      ap (λ t. cond (t && eqb e.party p.number) (means (facts p m e)) (Err NotCovered)) h

  answer_append : (w : ℕ) (ws vs : List ℕ) → (kind w ≡ 1 → 2 ≤ length ws) → first_answer ((w ∷ ws) ++ vs) ≡ first_answer (w ∷ ws)
  answer_append w [] vs h = skipped w vs (λ e. (let z = h e in omega arith)) ∙ sym (skipped w [] (λ e. (let z = h e in omega arith)))
  answer_append w (a ∷ []) vs h = skipped w (a ∷ vs) (λ e. (let z = h e in omega arith)) ∙ sym (skipped w (a ∷ []) (λ e. (let z = h e in omega arith)))
  answer_append w (a ∷ b ∷ ws) vs h = refl

  sums_append : (xs vs : List ℕ) (a : Answer) → Whole xs → by_word vs ≡ nothing plus a → by_word (xs ++ vs) ≡ by_word xs plus a
  sums_append [] vs a h e = e
  sums_append (w ∷ xs) vs a h e =
      ap₂ (λ s f. s plus f) (sums_append xs vs a h.1 e) (answer_append w xs vs (λ k. (h.0 k).0))
      ∙ plus_swap (by_word xs) a (first_answer (w ∷ xs))

  answer_set : (w : ℕ) (xs : List ℕ) (j v : ℕ) → kind (get_or xs j 0) ≡ 1 →
      (kind w ≡ 1 → (2 ≤ length xs) × (kind (get_or xs 0 0) ≡ 3) × (kind (get_or xs 1 0) ≡ 4)) → first_answer (w ∷ set xs j v) ≡ first_answer (w ∷ xs)
  answer_set w [] j v k h = refl
  answer_set w (a ∷ xs) zero v k h =
      skipped w (v ∷ xs) (λ e. (let z = (h e).1 in omega arith)) ∙ sym (skipped w (a ∷ xs) (λ e. (let z = (h e).1 in omega arith)))
  answer_set w (a ∷ []) (suc j) v k h = refl
  answer_set w (a ∷ b ∷ xs) (suc zero) v k h =
      skipped w (a ∷ v ∷ xs) (λ e. (let z = (h e).2 in omega arith)) ∙ sym (skipped w (a ∷ b ∷ xs) (λ e. (let z = (h e).2 in omega arith)))
  answer_set w (a ∷ b ∷ xs) (suc (suc j)) v k h = refl

  -- a strike takes the event's answer off
  sums_set : (xs : List ℕ) (j v : ℕ) → (kind v ≡ 1 → ⊥) → kind (get_or xs j 0) ≡ 1 → Whole xs →
      by_word (set xs j v) plus first_answer (drop j xs) ≡ by_word xs
  sums_set [] j v n k h = absurd (omega arith)
  sums_set (w ∷ xs) zero v n k h =
      ap (λ f. by_word xs plus f plus first_answer (w ∷ xs)) (skipped v xs n)
      ∙ ap (λ s. s plus first_answer (w ∷ xs)) (plus_none (by_word xs) NotCovered)
  sums_set (w ∷ xs) (suc j) v n k h =
      ap (λ f. by_word (set xs j v) plus f plus first_answer (drop j xs)) (answer_set w xs j v k h.0)
      ∙ plus_swap (by_word (set xs j v)) (first_answer (w ∷ xs)) (first_answer (drop j xs))
      ∙ ap (λ s. s plus first_answer (w ∷ xs)) (sums_set xs j v n k h.1)

  -- the three words of an event
  sums_event : (e : Event) → Fits e → by_word (event_words e) ≡ nothing plus its e
  sums_event e f =
      let a = get_or (event_words e) 0 0 in
      let b = get_or (event_words e) 1 0 in
      let c = get_or (event_words e) 2 0 in
      let k = event_kinds e f in
      let s : stands a b c ≡ true = all_stand a b c k.0 k.1 k.2 in
      ap (λ x. nothing plus x plus first_answer (b ∷ c ∷ []) plus first_answer (a ∷ b ∷ c ∷ [])) (skipped c [] (λ u. omega (arith, k.2)))
      ∙ ap (λ x. nothing plus x plus first_answer (a ∷ b ∷ c ∷ [])) (skipped b (c ∷ []) (λ u. omega (arith, k.1)))
      ∙ ap (λ x. nothing plus x) (taken a (b ∷ c ∷ []) s ∙ ap its (decoded e f))

  pub scanned_post : (ws : List ℕ) (es : List Placed) (e : Placed) → Fits e.event → Located ws es →
      by_word (this_month ws) ≡ worth_of means m p es → by_word (this_month (ws ++ event_words e.event)) ≡ worth_of means m p (e ∷ es)
  scanned_post ws es e f l h =
      ap (λ k. by_word (drop k (ws ++ event_words e.event))) (month_start_event ws e.event f)
      ∙ ap by_word (drop-append-le (month_start ws) ws (event_words e.event) (month_start_within ws))
      ∙ sums_append (this_month ws) (event_words e.event) (its e.event) (located_whole ws es l) (sums_event e.event f)
      ∙ ap (λ s. s plus its e.event) h
      ∙ worth_its e.event (worth_of means m p es)

  pub scanned_push : (ws : List ℕ) (es : List Placed) (w : ℕ) → (kind w ≡ 1 → ⊥) → eqb (kind w) 6 ≡ false → Located ws es →
      by_word (this_month ws) ≡ worth_of means m p es → by_word (this_month (ws ++ (w ∷ []))) ≡ worth_of means m p es
  scanned_push ws es w n six l h =
      ap (λ k. by_word (drop k (ws ++ (w ∷ [])))) (month_start_push ws w six)
      ∙ ap by_word (drop-append-le (month_start ws) ws (w ∷ []) (month_start_within ws))
      ∙ sums_append (this_month ws) (w ∷ []) (Err NotCovered) (located_whole ws es l) (ap (λ x. nothing plus x) (skipped w [] n))
      ∙ plus_none (by_word (this_month ws)) NotCovered
      ∙ h

  pub scanned_end : (ws : List ℕ) (w : ℕ) → eqb (kind w) 6 ≡ true → by_word (this_month (ws ++ (w ∷ []))) ≡ nothing
  scanned_end ws w six =
      ap by_word (drop_all (month_start (ws ++ (w ∷ []))) (ws ++ (w ∷ [])) (omega (arith, month_start_end ws w six, length-append ws (w ∷ []))))

  -- as if the event at the place were struck
  pub scanned_strike : (n : ℕ) (ws : List ℕ) (es : List Placed) (place : ℕ) → month_start ws ≤ place → kind (get_or ws place 0) ≡ 1 → Located ws es → Falling n es →
      by_word (this_month ws) ≡ worth_of means m p es → by_word (this_month (struck place ws)) ≡ worth_of means m p (without place es)
  scanned_strike n ws es place from one l fall h =
      plus_cancel (by_word (this_month (struck place ws))) (worth_of means m p (without place es)) (its (event_at place ws)) (off ∙ sym on)
    where
      k : ℕ
      k = month_start ws

      v : ℕ
      v = word 2 (content (get_or ws place 0))

      sum : k + (place - k) ≡ place
      sum = omega arith

      here : At ws es place
      here = l place from one

      parts : this_month (struck place ws) ≡ set (this_month ws) (place - k) v
      parts =
          ap (λ j. drop j (set ws place v)) (month_start_struck ws place one)
          ∙ ap (λ j. drop k (set ws j v)) (sym sum)
          ∙ drop-set-add k ws (place - k) v

      word_at : (j q : ℕ) → place + j ≡ q → get_or (drop (place - k) (this_month ws)) j 0 ≡ get_or ws q 0
      word_at j q e =
          let f : k + (place - k + j) ≡ q = omega arith in
          get_or-drop (place - k) (drop k ws) j 0 ∙ get_or-drop k ws (place - k + j) 0 ∙ ap (λ r. get_or ws r 0) f

      three : (a b c : ℕ) → Answer
      three a b c = cond (stands a b c && eqb (event_in a b c).party p.number) (means (facts p m (event_in a b c))) (Err NotCovered)

      standing : stands (get_or ws place 0) (get_or ws (place + 1) 0) (get_or ws (place + 2) 0) ≡ true
      standing = all_stand _ _ _ one here.second here.third

      event : first_answer (drop (place - k) (this_month ws)) ≡ its (event_at place ws)
      event =
          (λ i. three (word_at 0 place (omega arith) i) (word_at 1 (place + 1) refl i) (word_at 2 (place + 2) refl i))
          ∙ ap (λ t. cond (t && eqb (event_at place ws).party p.number) (means (facts p m (event_at place ws))) (Err NotCovered)) standing

      off : by_word (this_month (struck place ws)) plus its (event_at place ws) ≡ worth_of means m p es
      off =
          ap₂ (λ x f. by_word x plus f) parts (sym event)
          ∙ sums_set (this_month ws) (place - k) v (λ u. omega arith) (ap kind (get_or-drop k ws (place - k) 0 ∙ ap (λ j. get_or ws j 0) sum) ∙ one) (located_whole ws es l)
          ∙ h

      on : worth_of means m p (without place es) plus its (event_at place ws) ≡ worth_of means m p es
      on = go (cases_eq (event_at place ws).party p.number)
        where
          go : ((event_at place ws).party ≡ p.number) ⊎ ((event_at place ws).party ≡ p.number → ⊥) → worth_of means m p (without place es) plus its (event_at place ws) ≡ worth_of means m p es
          go (inl e) =
              ap (λ t. worth_of means m p (without place es) plus cond t (means (facts p m (event_at place ws))) (Err NotCovered)) (eq-eqb _ _ e)
              ∙ worth_without means m p n place es (placed_at place ws) fall here.is e
          go (inr e) =
              ap (λ t. worth_of means m p (without place es) plus cond t (means (facts p m (event_at place ws))) (Err NotCovered)) (ne_eqb _ _ e)
              ∙ plus_none (worth_of means m p (without place es)) NotCovered
              ∙ worth_other means m p n place es (placed_at place ws) fall here.is e
