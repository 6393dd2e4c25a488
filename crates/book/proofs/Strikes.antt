-- What a strike takes off the worth of a party's events. Assumes nothing.
use Rattle.std.proofs.Common.{◌≡◌, ℕ, ◌<◌, ◌≤◌, Bool, true, false, cond, eqb, List, [], ◌∷◌, Some, None, Option, sym, refl, ap, ◌∙◌, arith}
use Rattle.std.proofs.lemmas.Bool.{eqb-true, eq-eqb, ne_eqb}
use Rattle.rules.specs.Answers.{Rulebook, Answer}
use Rattle.rules.specs.declared.sums.Sums.{Sums}
use Rattle.rules.specs.Sums.{◌plus◌, ◌less◌}
use Rattle.records.specs.declared.enrolment.Enrolment.{Enrolment}
use Rattle.records.specs.Asking.{facts}
use Rattle.book.specs.History.{Placed, without, worth_of}

pub same_sums : (s t : Sums) → s.charges ≡ t.charges → s.first ≡ t.first → s.second ≡ t.second → s.third ≡ t.third → s ≡ t
same_sums s t p q u v = λ i. record { charges = p i; first = q i; second = u i; third = v i }

pub plus_swap : (s : Sums) (a b : Answer) → s plus a plus b ≡ s plus b plus a
plus_swap s a b = same_sums (s plus a plus b) (s plus b plus a) (omega arith) (omega arith) (omega arith) (omega arith)

pub plus_less : (s : Sums) (a : Answer) → s plus a less a ≡ s
plus_less s a = same_sums (s plus a less a) s (omega arith) (omega arith) (omega arith) (omega arith)

-- the event at a place
abbrev pub event_with : ℕ → List Placed → Option Placed
event_with place [] = None
event_with place (e ∷ es) = cond (eqb e.place place) (Some e) (event_with place es)

-- places fall, all below n
abbrev pub Falling : ℕ → List Placed → Type 0
Falling n [] = Unit {0}
Falling n (e ∷ es) = (e.place < n) × Falling e.place es

pub falling_more : (m n : ℕ) (es : List Placed) → m ≤ n → Falling m es → Falling n es
falling_more m n [] h f = tt
falling_more m n (e ∷ es) h f = (omega arith, f.1)

pub falling_without : (n place : ℕ) (es : List Placed) → Falling n es → Falling n (without place es)
falling_without n place [] f = tt
falling_without n place (e ∷ es) f =
    go (falling_without n place es (falling_more e.place n es (omega arith) f.1)) (falling_without e.place place es f.1) (eqb e.place place)
  where
    go : Falling n (without place es) → Falling e.place (without place es) → (t : Bool) → Falling n (cond t (without place es) (e ∷ without place es))
    go all rest true = all
    go all rest false = (f.0, rest)

-- nothing is below the places
pub without_past : (n place : ℕ) (es : List Placed) → n ≤ place → Falling n es → without place es ≡ es
without_past n place [] h f = refl
without_past n place (e ∷ es) h f =
    let apart : eqb e.place place ≡ false = ne_eqb _ _ (λ q. omega arith) in
    ap (λ t. cond t (without place es) (e ∷ without place es)) apart
    ∙ ap (λ x. e ∷ x) (without_past e.place place es (omega arith) f.1)

pub event_with_other : (place q : ℕ) (es : List Placed) → (q ≡ place → ⊥) → event_with q (without place es) ≡ event_with q es
event_with_other place q [] h = refl
event_with_other place q (e ∷ es) h = go (event_with_other place q es h) (eqb e.place place) refl
  where
    go : event_with q (without place es) ≡ event_with q es → (t : Bool) → eqb e.place place ≡ t → event_with q (cond t (without place es) (e ∷ without place es)) ≡ cond (eqb e.place q) (Some e) (event_with q es)
    go ih true u =
        let apart : eqb e.place q ≡ false = ne_eqb _ _ (λ w. h (sym w ∙ eqb-true _ _ u)) in
        ih ∙ sym (ap (λ t. cond t (Some e) (event_with q es)) apart)
    go ih false u = ap (λ x. cond (eqb e.place q) (Some e) x) ih

module _ (means : Rulebook) (m : ℕ) (p : Enrolment) where
  -- the struck event's worth goes, where it is the party's
  pub worth_without : (n place : ℕ) (es : List Placed) (e : Placed) → Falling n es → event_with place es ≡ Some e → e.event.party ≡ p.number →
      worth_of means m p (without place es) plus means (facts p m e.event) ≡ worth_of means m p es
  worth_without n place [] e f u h = cc
  worth_without n place (d ∷ es) e f u h = go (λ v. worth_without d.place place es e f.1 v h) (eqb d.place place) refl u
    where
      by : (t : Bool) → worth_of means m p (without place es) plus means (facts p m e.event) ≡ worth_of means m p es →
          cond t (worth_of means m p (without place es) plus means (facts p m d.event)) (worth_of means m p (without place es)) plus means (facts p m e.event)
          ≡ cond t (worth_of means m p es plus means (facts p m d.event)) (worth_of means m p es)
      by true ih = plus_swap (worth_of means m p (without place es)) (means (facts p m d.event)) (means (facts p m e.event)) ∙ ap (λ x. x plus means (facts p m d.event)) ih
      by false ih = ih

      go : (event_with place es ≡ Some e → worth_of means m p (without place es) plus means (facts p m e.event) ≡ worth_of means m p es) → (t : Bool) → eqb d.place place ≡ t → cond t (Some d) (event_with place es) ≡ Some e →
          worth_of means m p (cond t (without place es) (d ∷ without place es)) plus means (facts p m e.event)
          ≡ cond (eqb d.event.party p.number) (worth_of means m p es plus means (facts p m d.event)) (worth_of means m p es)
      go ih true q v =
          let same : d ≡ e = cc in
          let mine : eqb d.event.party p.number ≡ true = eq-eqb _ _ (ap (λ x. x.event.party) same ∙ h) in
          let rest : without place es ≡ es = without_past d.place place es (omega (arith, eqb-true _ _ q)) f.1 in
          ap (λ x. worth_of means m p x plus means (facts p m e.event)) rest
          ∙ ap (λ x. worth_of means m p es plus means (facts p m x.event)) (sym same)
          ∙ sym (ap (λ t. cond t (worth_of means m p es plus means (facts p m d.event)) (worth_of means m p es)) mine)
      go ih false q v = by (eqb d.event.party p.number) (ih v)

  pub worth_struck : (n place : ℕ) (es : List Placed) (e : Placed) → Falling n es → event_with place es ≡ Some e → e.event.party ≡ p.number →
      worth_of means m p es less means (facts p m e.event) ≡ worth_of means m p (without place es)
  worth_struck n place es e f u h =
      ap (λ x. x less means (facts p m e.event)) (sym (worth_without n place es e f u h))
      ∙ plus_less (worth_of means m p (without place es)) (means (facts p m e.event))

  -- another party's worth stays
  pub worth_other : (n place : ℕ) (es : List Placed) (e : Placed) → Falling n es → event_with place es ≡ Some e → (e.event.party ≡ p.number → ⊥) →
      worth_of means m p (without place es) ≡ worth_of means m p es
  worth_other n place [] e f u h = refl
  worth_other n place (d ∷ es) e f u h = go (λ v. worth_other d.place place es e f.1 v h) (eqb d.place place) refl u
    where
      go : (event_with place es ≡ Some e → worth_of means m p (without place es) ≡ worth_of means m p es) → (t : Bool) → eqb d.place place ≡ t → cond t (Some d) (event_with place es) ≡ Some e →
          worth_of means m p (cond t (without place es) (d ∷ without place es))
          ≡ cond (eqb d.event.party p.number) (worth_of means m p es plus means (facts p m d.event)) (worth_of means m p es)
      go ih true q v =
          let same : d ≡ e = cc in
          let other : eqb d.event.party p.number ≡ false = ne_eqb _ _ (λ w. h (sym (ap (λ x. x.event.party) same) ∙ w)) in
          ap (worth_of means m p) (without_past d.place place es (omega (arith, eqb-true _ _ q)) f.1)
          ∙ sym (ap (λ t. cond t (worth_of means m p es plus means (facts p m d.event)) (worth_of means m p es)) other)
      go ih false q v = ap (λ x. cond (eqb d.event.party p.number) (x plus means (facts p m d.event)) x) (ih v)
