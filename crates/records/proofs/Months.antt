-- Where a month starts, found from its end. Assumes nothing.
use Rattle.std.proofs.Common.{◌≡◌, ℕ, zero, suc, ◌+◌, ◌<◌, ◌≤◌, true, false, cond, ◌||◌, List, [], ◌∷◌, length, get_or, drop, MatchOption, Some, None, Option, sym, refl, ap, ◌∙◌, subst, arith}
use Rattle.std.proofs.lemmas.List.{drop_more, get_or-drop, length-drop}
use Rattle.std.proofs.lemmas.Bool.{cond-true, cond-false, eq-eqb, ne_eqb, or_left, or_right, or_from}
use Rattle.records.specs.Words.{kind}
use Rattle.records.specs.Journal.{has_end, month_start, posted}
use Rattle.records.specs.declared.event.Event.{Event}

-- a word that ends a month
ends_at : (ws : List ℕ) (i : ℕ) → i < length ws → kind (get_or ws i 0) ≡ 6 → has_end ws ≡ true
ends_at [] i h k = absurd (omega arith)
ends_at (w ∷ ws) zero h k = or_left _ _ (eq-eqb _ 6 k)
ends_at (w ∷ ws) (suc i) h k = or_right _ _ (ends_at ws i (omega arith) k)

-- no month ends among the words
pub starts_first : (ws : List ℕ) → has_end ws ≡ false → month_start ws ≡ 0
starts_first [] e = refl
starts_first (w ∷ ws) e = cond-false _ _ _ e

ends_last : (ws : List ℕ) (i : ℕ) → i < length ws → kind (get_or ws i 0) ≡ 6 → has_end (drop (i + 1) ws) ≡ false → month_start ws ≡ i + 1
ends_last [] i h k e = absurd (omega arith)
ends_last (w ∷ ws) zero h k e = cond-true _ _ _ (or_left _ _ (eq-eqb _ 6 k)) ∙ ap suc (starts_first ws e)
ends_last (w ∷ ws) (suc i) h k e =
    let next : suc i + 1 ≡ suc (i + 1) = omega arith in
    let none : has_end (drop (i + 1) ws) ≡ false = subst (λ n. has_end (drop n (w ∷ ws)) ≡ false) next e in
    cond-true _ _ _ (or_right _ _ (ends_at ws i (omega arith) k)) ∙ (ap suc (ends_last ws i (omega arith) k none) ∙ sym next)

-- the words from i on are of this month
pub starts_by : (ws : List ℕ) (i : ℕ) → has_end (drop i ws) ≡ false → month_start ws ≤ i
starts_by [] i e = omega arith
starts_by (w ∷ ws) zero e = subst (λ n. n ≤ 0) (sym (starts_first (w ∷ ws) e)) (omega arith)
starts_by (w ∷ ws) (suc i) e =
    let P : ℕ → Type 0 = λ n. n ≤ suc i in
    elim (has_end (w ∷ ws)) as (λ b. P (cond b (suc (month_start ws)) 0)) [ true ↦ omega (arith, starts_by ws i e) | false ↦ omega arith ]

-- no word ends a month
none_ends : (ws : List ℕ) → ((k : ℕ) → k < length ws → ¬ (kind (get_or ws k 0) ≡ 6)) → has_end ws ≡ false
none_ends [] h = refl
none_ends (w ∷ ws) h = or_from _ _ (ne_eqb _ 6 (h 0 (omega arith))) (none_ends ws (λ k l. h (suc k) (omega arith)))

-- what is found from the end back is the last word that ends a month, if there is one
pub found_last : (ws : List ℕ) (r : Option ℕ) (n : ℕ)
    → MatchOption r ((k : ℕ) → k < length ws → ¬ (kind (get_or ws k 0) ≡ 6)) (λ i. (i < length ws) × (kind (get_or ws i 0) ≡ 6) × ((k : ℕ) → i < k → k < length ws → ¬ (kind (get_or ws k 0) ≡ 6)))
    → MatchOption r (n ≡ 0) (λ i. n ≡ i + 1) → n ≡ month_start ws
found_last ws None n f e = e ∙ sym (starts_first ws (none_ends ws f))
found_last ws (Some i) n f e =
    let after : has_end (drop (i + 1) ws) ≡ false =
    none_ends (drop (i + 1) ws) (λ k l z. f.2 (i + 1 + k) (omega arith) (omega (arith, length-drop (i + 1) ws)) (sym (ap kind (get_or-drop (i + 1) ws k 0)) ∙ z)) in
    e ∙ sym (ends_last ws i f.0 f.1 after)

-- The word before the n-th, which is looked at next.
-- The word before the n-th, which is looked at next.
module _ (ws : List ℕ) (i n : ℕ) (next : i + 1 ≡ n) (within : i < length ws) where
  -- it ends a month, the last one
  pub starts_after : kind (get_or ws i 0) ≡ 6 → has_end (drop n ws) ≡ false → month_start ws ≡ n
  starts_after k e = ends_last ws i within k (subst (λ m. has_end (drop m ws) ≡ false) (sym next) e) ∙ next

  -- it ends none
  pub none_more : (kind (get_or ws i 0) ≡ 6 → ⊥) → has_end (drop n ws) ≡ false → has_end (drop i ws) ≡ false
  none_more k e = ap has_end (drop_more ws i 0 within) ∙ (ap (λ b. b || has_end (drop (i + 1) ws)) (ne_eqb _ 6 k) ∙ (ap (λ m. has_end (drop m ws)) next ∙ e))

posted_all : (e : Event) (ws : List ℕ) (i : ℕ) → posted e (drop i ws) ≡ true → posted e ws ≡ true
posted_all e [] zero p = p
posted_all e [] (suc i) p = p
posted_all e (w ∷ ws) zero p = p
posted_all e (w ∷ ws) (suc i) p = or_right _ _ (posted_all e ws i p)

-- what was posted among some words was posted among more
pub posted_more : (e : Event) (ws : List ℕ) (s i : ℕ) → s ≤ i → posted e (drop i ws) ≡ true → posted e (drop s ws) ≡ true
posted_more e ws zero i h p = posted_all e ws i p
posted_more e ws (suc s) zero h p = absurd (omega arith)
posted_more e [] (suc s) (suc i) h p = p
posted_more e (w ∷ ws) (suc s) (suc i) h p = posted_more e ws s i (omega arith) p
