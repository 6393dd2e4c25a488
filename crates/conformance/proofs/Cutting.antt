-- The first line of a text. Assumes nothing.
use Rattle.std.proofs.Common.{◌≡◌, ℕ, zero, suc, ◌+◌, ◌<◌, ◌≤◌, cond, Bool, true, false, not, eqb, ltb, List, [], ◌∷◌, length, get_or, take, drop, Some, None, refl, ap, ◌∙◌, arith}
use Rattle.std.proofs.lemmas.Bool.{ltb-false}
use Rattle.std.specs.List.{position, position_or_len}
use Rattle.conformance.specs.Lines.{onto, lines}

abbrev pub ends : ℕ → Bool
ends b = eqb b 10

-- it goes up to the first newline
pub first_cut : (text : List ℕ) (i : ℕ) → i < length text → ends (get_or text i 0) ≡ true → ((k : ℕ) → k < i → ends (get_or text k 0) ≡ false)
    → lines text ≡ take i text ∷ lines (drop (i + 1) text)
first_cut [] i h e n = absurd (omega arith)
first_cut (b ∷ bs) zero h e n = simp e
first_cut (b ∷ bs) (suc i) h e n =
    let here : ends b ≡ false = n 0 (omega arith) in
    let more : lines bs ≡ take i bs ∷ lines (drop (i + 1) bs) = first_cut bs i (omega arith) e (λ k s. n (suc k) (omega arith)) in
    let next : suc (i + 1) ≡ suc i + 1 = omega arith in
    simp here (ap (onto b) more ∙ ap (λ n. (b ∷ take i bs) ∷ lines (drop n (b ∷ bs))) next)

onto_one : (b : ℕ) (cs : List ℕ) → length (b ∷ cs) ≤ 1 + position_or_len ends cs → (0 < length cs → length cs ≤ position_or_len ends cs → lines cs ≡ cs ∷ [])
    → onto b (lines cs) ≡ (b ∷ cs) ∷ []
onto_one b [] l more = refl
onto_one b (c ∷ cs) l more = ap (onto b) (more (omega arith) (omega arith))

-- and with no newline the text is one line
pub one_line : (text : List ℕ) → 0 < length text → length text ≤ position_or_len ends text → lines text ≡ text ∷ []
one_line [] h l = absurd (omega arith)
one_line (b ∷ bs) h l = go (ends b) refl l (one_line bs)
  where
    go : (t : Bool) → ends b ≡ t → length (b ∷ bs) ≤ cond (not t) (1 + position_or_len ends bs) 0 → (0 < length bs → length bs ≤ position_or_len ends bs → lines bs ≡ bs ∷ [])
        → lines (b ∷ bs) ≡ (b ∷ bs) ∷ []
    go true e l more = absurd (omega arith)
    go false e l more = simp e (onto_one b bs l more)

pub none_ends : (text : List ℕ) → None ≡ position ends text → length text ≤ position_or_len ends text
none_ends text e = go (ltb (position_or_len ends text) (length text)) refl e
  where
    go : (t : Bool) → ltb (position_or_len ends text) (length text) ≡ t → None ≡ cond t (Some (position_or_len ends text)) None → length text ≤ position_or_len ends text
    go true t e = let z : ◌≡◌ {A = ℕ} 0 1 = cc in absurd (omega arith)
    go false t e = ltb-false _ _ t
