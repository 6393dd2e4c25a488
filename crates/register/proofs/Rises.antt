-- Lines in rising number stay so when one more is entered. Assumes nothing.
use Rattle.std.proofs.Common.{◌≡◌, ℕ, zero, suc, ◌+◌, ◌<◌, ◌≤◌, true, false, eqb, ltb, List, [], ◌∷◌, set, IfSome, Some, None, Option, sym, ap, ◌∙◌, subst, ⊎_elim, arith}
use Rattle.std.specs.List.{slice_get, insert, remove}
use Rattle.std.proofs.lemmas.Bool.{cases_Bool, eq-eqb, eqb-true, eqb-false, ltb-true, ltb-false, cond-true, cond-false}
use Rattle.register.specs.Numbered.{first_from, first_at, place_from, Above, Rising, Only}

module _ {R : Type 0} (number : R → ℕ) where
  place_next : (n i : ℕ) (xs : List R) → place_from number n (i + 1) xs ≡ suc (place_from number n i xs)
  place_next n i [] = omega arith
  place_next n i (x ∷ xs) = ⊎_elim
      (λ (e : ltb n (number x) ≡ true). cond-true _ _ _ e ∙ (omega arith ∙ ap suc (sym (cond-true _ _ _ e))))
      (λ (e : ltb n (number x) ≡ false). cond-false _ _ _ e ∙ (place_next n (i + 1) xs ∙ ap suc (sym (cond-false _ _ _ e))))
      (cases_Bool (ltb n (number x)))

  above_lower : (m n : ℕ) (xs : List R) → m ≤ n → Above number n xs → Above number m xs
  above_lower m n [] h a = tt
  above_lower m n (x ∷ xs) h a = (omega arith, above_lower m n xs h a.1)

  above_inserted : (m k : ℕ) (y : R) (xs : List R) → m < number y → Above number m xs → Above number m (insert xs k y)
  above_inserted m zero y xs h a = (h, a)
  above_inserted m (suc k) y [] h a = (h, tt)
  above_inserted m (suc k) y (x ∷ xs) h a = (a.0, above_inserted m k y xs h a.1)

  other : (n j : ℕ) (x : R) (xs : List R) → first_from number n j (x ∷ xs) ≡ None → number x ≡ n → ⊥
  other n j x xs none e = let s : Some j ≡ None = sym (cond-true _ _ _ (eq-eqb _ n e)) ∙ none in let z : ◌≡◌ {A = ℕ} 0 1 = cc in omega arith

  absent_next : (n j : ℕ) (x : R) (xs : List R) → first_from number n j (x ∷ xs) ≡ None → first_from number n (j + 1) xs ≡ None
  absent_next n j x xs none = ⊎_elim
      (λ (e : eqb (number x) n ≡ true). let s : Some j ≡ None = sym (cond-true _ _ _ e) ∙ none in let z : ◌≡◌ {A = ℕ} 0 1 = cc in absurd (omega arith))
      (λ (e : eqb (number x) n ≡ false). sym (cond-false _ _ _ e) ∙ none)
      (cases_Bool (eqb (number x) n))

  pub rising_inserted : (y : R) (j : ℕ) (xs : List R) → Rising number xs → first_from number (number y) j xs ≡ None → Rising number (insert xs (place_from number (number y) 0 xs) y)
  rising_inserted y j [] rising none = (tt, tt)
  rising_inserted y j (x ∷ xs) rising none = ⊎_elim
      (λ (e : ltb (number y) (number x) ≡ true).
      let less : number y < number x = ltb-true _ _ e in
      subst (λ k. Rising number (insert (x ∷ xs) k y)) (sym (cond-true _ _ _ e))
      ((less, above_lower (number y) (number x) xs (omega arith) rising.0), rising))
      (λ (e : ltb (number y) (number x) ≡ false).
      let more : number x < number y = omega (arith, ltb-false _ _ e, other (number y) j x xs none) in
      subst (λ k. Rising number (insert (x ∷ xs) k y)) (sym (cond-false _ _ _ e ∙ place_next (number y) 0 xs))
      (above_inserted (number x) (place_from number (number y) 0 xs) y xs more rising.0, rising_inserted y (j + 1) xs rising.1 (absent_next (number y) j x xs none)))
      (cases_Bool (ltb (number y) (number x)))

  above_removed : (m i : ℕ) (xs : List R) → Above number m xs → Above number m (remove xs i)
  above_removed m zero [] a = tt
  above_removed m (suc i) [] a = tt
  above_removed m zero (x ∷ xs) a = a.1
  above_removed m (suc i) (x ∷ xs) a = (a.0, above_removed m i xs a.1)

  pub rising_removed : (i : ℕ) (xs : List R) → Rising number xs → Rising number (remove xs i)
  rising_removed zero [] r = tt
  rising_removed (suc i) [] r = tt
  rising_removed zero (x ∷ xs) r = r.1
  rising_removed (suc i) (x ∷ xs) r = (above_removed (number x) i xs r.0, rising_removed i xs r.1)

  -- a line is replaced by one with the same number
  module _ (y : R) where
    abbrev Same : List R → ℕ → Type 0
    Same xs i = IfSome (slice_get xs i) (λ old. number y ≡ number old)

    above_set : (m i : ℕ) (xs : List R) → Same xs i → Above number m xs → Above number m (set xs i y)
    above_set m zero [] s a = tt
    above_set m (suc i) [] s a = tt
    above_set m zero (x ∷ xs) s a = (omega (arith, s, a.0), a.1)
    above_set m (suc i) (x ∷ xs) s a = (a.0, above_set m i xs s a.1)

    pub rising_set : (i : ℕ) (xs : List R) → Same xs i → Rising number xs → Rising number (set xs i y)
    rising_set zero [] s r = tt
    rising_set (suc i) [] s r = tt
    rising_set zero (x ∷ xs) s r = (subst (λ n. Above number n xs) (sym s) r.0, r.1)
    rising_set (suc i) (x ∷ xs) s r = (above_set (number x) i xs s r.0, rising_set i xs s r.1)

  -- a line above n does not have the number n
  above_at : (n j : ℕ) (x : R) (xs : List R) → Above number n xs → slice_get xs j ≡ Some x → n < number x
  above_at n j x [] a e = let z : ◌≡◌ {A = ℕ} 0 1 = cc in absurd (omega arith)
  above_at n zero x (y ∷ xs) a e = let s : y ≡ x = cc in subst (λ l. n < number l) s a.0
  above_at n (suc j) x (y ∷ xs) a e = above_at n j x xs a.1 e

  only_from : (n i k j : ℕ) (x : R) (xs : List R) → Rising number xs → first_from number n i xs ≡ Some k → slice_get xs j ≡ Some x → number x ≡ n → i + j ≡ k
  only_from n i k j x [] r f e h = let z : ◌≡◌ {A = ℕ} 0 1 = cc in absurd (omega arith)
  only_from n i k zero x (y ∷ xs) r f e h = ⊎_elim
      (λ (t : eqb (number y) n ≡ true). let s : Some i ≡ Some k = sym (cond-true _ _ _ t) ∙ f in let ik : i ≡ k = cc in omega arith)
      (λ (t : eqb (number y) n ≡ false). let s : y ≡ x = cc in absurd (eqb-false _ _ t (ap number s ∙ h)))
      (cases_Bool (eqb (number y) n))
  only_from n i k (suc j) x (y ∷ xs) r f e h = ⊎_elim
      (λ (t : eqb (number y) n ≡ true). absurd (omega (arith, eqb-true _ _ t, h, above_at (number y) j x xs r.0 e)))
      (λ (t : eqb (number y) n ≡ false). omega (arith, only_from n (i + 1) k j x xs r.1 (sym (cond-false _ _ _ t) ∙ f) e h))
      (cases_Bool (eqb (number y) n))

  -- where lines rise, the first line with a number is the only one
  pub only_first : (n : ℕ) (xs : List R) (at : Option ℕ) → at ≡ first_at number n xs → Rising number xs → IfSome at (Only number n xs)
  only_first n xs None f r = tt
  only_first n xs (Some k) f r = λ j x e h. omega (arith, only_from n 0 k j x xs r (sym f) e h)
