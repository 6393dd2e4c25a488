-- Lemmas on lists of numbered lines. Assumes nothing.
use Rattle.std.proofs.Common.{◌≡◌, ℕ, ◌+◌, ◌-◌, ◌<◌, ◌≤◌, nat_lt, List, [], ◌∷◌, ◌++◌, length, get_or, take, drop, set, Some, None, sym, ap, ◌∙◌, subst, ⊎_elim, zero-add, eq-or-lt_of_le, arith, rules}
use Rattle.std.proofs.lemmas.Iterator.Adapters.{position_from-zero}
use Rattle.std.proofs.lemmas.List.{get_or-set_same, get_or-take, length-take-le, drop_more, places, same_lists}
use Rattle.std.proofs.lemmas.List.Quantifiers.{position-Some}
use Rattle.std.proofs.lemmas.Option.{slice_get-get_or}
use Rattle.std.specs.Prelude.{◌==◌, unwrap_or}
use Rattle.std.specs.List.{insert, remove, slice_get, position_from}
use Rattle.std.proofs.lemmas.Bool.{cases_lt, cases_eq}
use Rattle.std.proofs.lemmas.Bool.Decides.{nat_tests}
use borrow.Rule.Slice.PartMut.{put_mid}
use Rattle.register.specs.Numbered.{first_at, place_at, place_from}

-- Where a search ends.
module _ {R : Type 0} (number : R → ℕ) (n : ℕ) where
  pub first_read : (xs : List R) (i : ℕ) → Some i ≡ first_at number n xs → slice_get xs i ≡ None → ⊥
  first_read [] i e none = cc
  first_read (x ∷ xs) i e none =
      let has = λ (y : R). number y == n in
      let within : i < length (x ∷ xs) = (position-Some has (x ∷ xs) i x (position_from-zero has (x ∷ xs) ∙ sym e)).0 in
      let read = slice_get-get_or (x ∷ xs) i x within in
      cc

  place_more : (i : ℕ) (xs : List R) → place_from number n i xs ≡ unwrap_or (position_from (λ y. nat_lt n (number y)) i xs) (i + length xs)
  place_more i [] = omega arith
  place_more i (x ∷ xs) = let later = place_more (i + 1) xs in grind (arith, nat_tests)

  pub place_is : (xs : List R) → place_at number n xs ≡ unwrap_or (position_from (λ y. nat_lt n (number y)) 0 xs) (length xs)
  place_is xs = simp zero-add at (place_more 0 xs)

-- What a write and a rotation within the lines in use leave of them.
module _ {R : Type 0} (xs : List R) (used i : ℕ) where
  pub held_set : (y : R) → i < used → used ≤ length xs → take used (set xs i y) ≡ set (take used xs) i y
  held_set y l le = same_lists _ _ (search (rules, places)) (λ k d h. ⊎_elim
      (λ (e : k ≡ i). grind (arith, places, get_or-set_same))
      (λ (ne : k ≡ i → ⊥). grind (arith, places))
      (cases_eq k i))

  pub held_inserted : (ys : List R) (y : R) → i ≤ used → used < length xs → length ys ≡ used + 1 - i
      → ((j : ℕ) (d : R) → 1 ≤ j → j < used + 1 - i → get_or ys j d ≡ get_or xs (i + (j - 1)) d)
      → take (used + 1) (set (put_mid i (used + 1 - i) xs ys) i y) ≡ insert (take used xs) i y
  held_inserted ys y le l n shifted = same_lists _ _ (search (rules, places)) (λ k d h. ⊎_elim
      (λ (lk : k < i). grind (arith, places))
      (λ (gk : i ≤ k). ⊎_elim
      (λ (e : i ≡ k). grind (arith, places, get_or-set_same))
      (λ (lk : i < k). grind (arith, places, shifted (k - i) d (omega arith)))
      (eq-or-lt_of_le gk))
      (cases_lt k i))

  pub held_removed : (ys : List R) → i < used → used ≤ length xs → length ys ≡ used - i
      → ((j : ℕ) (d : R) → j + 1 < used - i → get_or ys j d ≡ get_or xs (i + (j + 1)) d)
      → take (used - 1) (put_mid i (used - i) xs ys) ≡ remove (take used xs) i
  held_removed ys l le n shifted = same_lists _ _ (search (rules, places)) (λ k d h. ⊎_elim
      (λ (lk : k < i). grind (arith, places))
      (λ (gk : i ≤ k). grind (arith, places, shifted (k - i) d))
      (cases_lt k i))

  -- past the lines in use
  pub beyond_inserted : (ys : List R) (y : R) (m : ℕ) → i ≤ used → used < length xs → length ys ≡ used + 1 - i → used + 1 ≤ m
      → drop m (set (put_mid i (used + 1 - i) xs ys) i y) ≡ drop m xs
  beyond_inserted ys y m le l n past = same_lists _ _ (search (rules, places)) (λ k d h. grind (arith, places))

  pub beyond_removed : (ys : List R) (m : ℕ) → i < used → used ≤ length xs → length ys ≡ used - i → used ≤ m
      → drop m (put_mid i (used - i) xs ys) ≡ drop m xs
  beyond_removed ys m l le n past = same_lists _ _ (search (rules, places)) (λ k d h. grind (arith, places))

  -- the line taken out lies right past the lines in use
  pub laid_by : (ys : List R) → i < used → used ≤ length xs → length ys ≡ used - i → ((d : R) → get_or ys (used - i - 1) d ≡ get_or xs i d)
      → drop (used - 1) (put_mid i (used - i) xs ys) ≡ take 1 (drop i (take used xs)) ++ drop used xs
  laid_by ys l le n last = same_lists _ _ (search (rules, places)) (λ k d h. ⊎_elim
      (λ (lk : k < 1).
      let all : length (take used xs) ≡ used = length-take-le used xs le in
      let zs = put_mid i (used - i) xs ys in
      let left : get_or (drop (used - 1) zs) 0 d ≡ get_or ys (used - i - 1) d = grind (arith, places) in
      let right : get_or (take 1 (drop i (take used xs)) ++ drop used xs) 0 d ≡ get_or xs i d =
      ap (λ l. get_or (take 1 l ++ drop used xs) 0 d) (drop_more (take used xs) i d (omega (arith, all))) ∙ get_or-take used xs i d l in
      subst (λ j. get_or (drop (used - 1) zs) j d ≡ get_or (take 1 (drop i (take used xs)) ++ drop used xs) j d) (omega arith) (left ∙ (last d ∙ sym right)))
      (λ (gk : 1 ≤ k). grind (arith, places))
      (cases_lt k 1))
  -- what is not there is not removed

pub removed_past : {R : Type 0} (xs : List R) (i : ℕ) → length xs ≤ i → remove xs i ≡ xs
removed_past xs i past = same_lists _ _ (search (rules, places)) (λ k d h. grind (arith, places))
