-- The roster's lines, drawn from the parties in rising number. Assumes nothing.
use Rattle.std.proofs.Common.{◌≡◌, ℕ, suc, ◌<◌, Bool, true, false, cond, ◌||◌, eqb, ltb, ◌⊎◌, List, [], ◌∷◌, map, Some, None, refl, ap, ◌∙◌, subst, ap₂, inl, inr, arith}
use Rattle.std.specs.List.{ContainsAt}
use Rattle.std.specs.List.Sorted.{IsPermutation}
use Rattle.std.proofs.lemmas.List.Sorted.{IsPermutation-refl, IsPermutation-cons, IsPermutation-swap, IsPermutation-trans}
use Rattle.std.proofs.lemmas.Bool.{eqb-true, eqb-false, ltb-true, ltb-false, or_parts}
use Rattle.rules.specs.declared.sums.Sums.{Sums}
use Rattle.settlement.specs.Registers.{has, found, entered, changed, by_number}
use Rattle.register.specs.Numbered.{Above, Rising}
use Rattle.records.specs.declared.enrolment.Enrolment.{Enrolment}
use Rattle.billing.specs.Lines.{Line, number}
use Rattle.book.specs.History.{sorted}

-- the line of a party by its figures
abbrev pub drawn : (Enrolment → Sums) → (a m r : Enrolment → ℕ) → Enrolment → Line
drawn s a m r p = record { party = p; sums = s p; passed = a p; magnitude = m p; running = r p }

pub above_more : (m n : ℕ) (ps : List Enrolment) → m < n → Above by_number n ps → Above by_number m ps
above_more m n [] h a = tt
above_more m n (p ∷ ps) h a = (omega arith, above_more m n ps h a.1)

above_entered : (n : ℕ) (p : Enrolment) (ps : List Enrolment) → n < p.number → Above by_number n ps → Above by_number n (entered by_number p ps)
above_entered n p [] h a = (h, tt)
above_entered n p (q ∷ qs) h a = go (above_entered n p qs h a.1) (ltb p.number q.number)
  where
    go : Above by_number n (entered by_number p qs) → (t : Bool) → Above by_number n (cond t (p ∷ q ∷ qs) (q ∷ entered by_number p qs))
    go ih true = (h, (a.0, a.1))
    go ih false = (a.0, ih)

pub rising_entered : (p : Enrolment) (ps : List Enrolment) → has by_number p.number ps ≡ false → Rising by_number ps → Rising by_number (entered by_number p ps)
rising_entered p [] e r = (tt, tt)
rising_entered p (q ∷ qs) e r = go (rising_entered p qs (or_parts _ _ e).1 r.1) (ltb p.number q.number) refl
  where
    go : Rising by_number (entered by_number p qs) → (t : Bool) → ltb p.number q.number ≡ t → Rising by_number (cond t (p ∷ q ∷ qs) (q ∷ entered by_number p qs))
    go ih true h = ((ltb-true _ _ h, above_more p.number q.number qs (ltb-true _ _ h) r.0), r)
    go ih false h =
        let apart = eqb-false q.number p.number (or_parts (eqb q.number p.number) (has by_number p.number qs) e).0 in
        let below = ltb-false p.number q.number h in
        (above_entered q.number p qs (omega arith) r.0, ih)

shuffled_entered : (p : Enrolment) (ps : List Enrolment) → IsPermutation (p ∷ ps) (entered by_number p ps)
shuffled_entered p [] = IsPermutation-refl (p ∷ [])
shuffled_entered p (q ∷ qs) = go (shuffled_entered p qs) (ltb p.number q.number)
  where
    go : IsPermutation (p ∷ qs) (entered by_number p qs) → (t : Bool) → IsPermutation (p ∷ q ∷ qs) (cond t (p ∷ q ∷ qs) (q ∷ entered by_number p qs))
    go ih true = IsPermutation-refl (p ∷ q ∷ qs)
    go ih false =
        IsPermutation-trans (p ∷ q ∷ qs) (q ∷ p ∷ qs) (q ∷ entered by_number p qs)
        (IsPermutation-swap (p ∷ q ∷ qs) (q ∷ p ∷ qs) 0 1 (omega arith) (omega arith) refl) (IsPermutation-cons q (p ∷ qs) (entered by_number p qs) ih)

pub shuffled_sorted : (ps : List Enrolment) → IsPermutation ps (sorted ps)
shuffled_sorted [] = IsPermutation-refl []
shuffled_sorted (p ∷ ps) =
    IsPermutation-trans (p ∷ ps) (p ∷ sorted ps) (entered by_number p (sorted ps)) (IsPermutation-cons p ps (sorted ps) (shuffled_sorted ps)) (shuffled_entered p (sorted ps))

or_swap : (x y z : Bool) → (x || (y || z)) ≡ (y || (x || z))
or_swap true true z = refl
or_swap true false z = refl
or_swap false true z = refl
or_swap false false z = refl

pub has_entered : (n : ℕ) (p : Enrolment) (ps : List Enrolment) → has by_number n (entered by_number p ps) ≡ (eqb p.number n || has by_number n ps)
has_entered n p [] = refl
has_entered n p (q ∷ qs) = go (has_entered n p qs) (ltb p.number q.number)
  where
    go : has by_number n (entered by_number p qs) ≡ (eqb p.number n || has by_number n qs) → (t : Bool) → has by_number n (cond t (p ∷ q ∷ qs) (q ∷ entered by_number p qs)) ≡ (eqb p.number n || (eqb q.number n || has by_number n qs))
    go ih true = refl
    go ih false = ap (λ x. eqb q.number n || x) ih ∙ or_swap (eqb q.number n) (eqb p.number n) (has by_number n qs)

module _ (s : Enrolment → Sums) (a m r : Enrolment → ℕ) where
  pub has_drawn : (n : ℕ) (ps : List Enrolment) → has number n (map (drawn s a m r) ps) ≡ has by_number n ps
  has_drawn n [] = refl
  has_drawn n (p ∷ ps) = ap (λ x. eqb p.number n || x) (has_drawn n ps)

  above_drawn : (n : ℕ) (ps : List Enrolment) → Above by_number n ps → Above number n (map (drawn s a m r) ps)
  above_drawn n [] h = tt
  above_drawn n (p ∷ ps) h = (h.0, above_drawn n ps h.1)

  pub rising_drawn : (ps : List Enrolment) → Rising by_number ps → Rising number (map (drawn s a m r) ps)
  rising_drawn [] h = tt
  rising_drawn (p ∷ ps) h = (above_drawn p.number ps h.0, rising_drawn ps h.1)

  pub entered_drawn : (p : Enrolment) (ps : List Enrolment) → entered number (drawn s a m r p) (map (drawn s a m r) ps) ≡ map (drawn s a m r) (entered by_number p ps)
  entered_drawn p [] = refl
  entered_drawn p (q ∷ qs) = go (entered_drawn p qs) (ltb p.number q.number)
    where
      go : entered number (drawn s a m r p) (map (drawn s a m r) qs) ≡ map (drawn s a m r) (entered by_number p qs) → (t : Bool) → cond t (drawn s a m r p ∷ drawn s a m r q ∷ map (drawn s a m r) qs) (drawn s a m r q ∷ entered number (drawn s a m r p) (map (drawn s a m r) qs))
          ≡ map (drawn s a m r) (cond t (p ∷ q ∷ qs) (q ∷ entered by_number p qs))
      go ih true = refl
      go ih false = ap (λ x. drawn s a m r q ∷ x) ih

  -- a line that is found is that of a party of the number
  pub found_drawn : (n : ℕ) (ps : List Enrolment) → (found number n (map (drawn s a m r) ps) ≡ None)
      ⊎ ((q : Enrolment) × ContainsAt ps q × (q.number ≡ n) × (found number n (map (drawn s a m r) ps) ≡ Some (drawn s a m r q)))
  found_drawn n [] = inl refl
  found_drawn n (p ∷ ps) = go (found_drawn n ps) (eqb p.number n) refl
    where
      go : ((found number n (map (drawn s a m r) ps) ≡ None)
          ⊎ ((q : Enrolment) × ContainsAt ps q × (q.number ≡ n) × (found number n (map (drawn s a m r) ps) ≡ Some (drawn s a m r q)))) →
          (t : Bool) → eqb p.number n ≡ t → (cond t (Some (drawn s a m r p)) (found number n (map (drawn s a m r) ps)) ≡ None)
          ⊎ ((q : Enrolment) × ContainsAt (p ∷ ps) q × (q.number ≡ n) × (cond t (Some (drawn s a m r p)) (found number n (map (drawn s a m r) ps)) ≡ Some (drawn s a m r q)))
      go ih true e = inr (p, (0, omega arith, λ d. refl), eqb-true _ _ e, refl)
      go (inl h) false e = inl h
      go (inr h) false e = inr (h.0, (suc h.1.0, omega (arith, h.1.1), h.1.2), h.2, h.3)

  module _ (n : ℕ) (f : Line → Line) (h : Enrolment → Line)
      (at : (p : Enrolment) → p.number ≡ n → f (drawn s a m r p) ≡ h p)
      (off : (p : Enrolment) → (p.number ≡ n → ⊥) → drawn s a m r p ≡ h p) where
    past : (ps : List Enrolment) → Above by_number n ps → map (drawn s a m r) ps ≡ map h ps
    past [] u = refl
    past (p ∷ ps) u = ap₂ (λ x y. x ∷ y) (off p (λ e. omega arith)) (past ps u.1)

    -- one party's line is changed, and no other
    pub changed_drawn : (ps : List Enrolment) → Rising by_number ps → changed number n f (map (drawn s a m r) ps) ≡ map h ps
    changed_drawn [] u = refl
    changed_drawn (p ∷ ps) u = go (changed_drawn ps u.1) (eqb p.number n) refl
      where
        go : changed number n f (map (drawn s a m r) ps) ≡ map h ps → (t : Bool) → eqb p.number n ≡ t → cond t (f (drawn s a m r p) ∷ map (drawn s a m r) ps) (drawn s a m r p ∷ changed number n f (map (drawn s a m r) ps)) ≡ h p ∷ map h ps
        go ih true e =
            let is = eqb-true _ _ e in
            ap₂ (λ x y. x ∷ y) (at p is) (past ps (subst (λ k. Above by_number k ps) is u.0))
        go ih false e = ap₂ (λ x y. x ∷ y) (off p (eqb-false _ _ e)) ih
