-- Lists of numbered lines, whatever they hold. Assumes nothing.
use Rattle.std.specs.Prelude.{◌≡◌, ℕ, ◌+◌, ◌<◌, cond, List, [], ◌∷◌, Some, Option, ◌==◌, nat_lt}
use Rattle.std.specs.List.{slice_get, remove, position_from}

-- the place, counted from i on, of the first line with the number n
abbrev pub first_from : {R : Type 0} → (R → ℕ) → ℕ → ℕ → List R → Option ℕ
first_from number n i xs = position_from (λ x. number x == n) i xs

abbrev pub first_at : {R : Type 0} → (R → ℕ) → ℕ → List R → Option ℕ
first_at number n xs = first_from number n 0 xs

-- the place, counted from i on, of the first line with a number above n, or the end
abbrev pub place_from : {R : Type 0} → (R → ℕ) → ℕ → ℕ → List R → ℕ
place_from number n i [] = i
place_from number n i (x ∷ xs) = cond (nat_lt n (number x)) i (place_from number n (i + 1) xs)

abbrev pub place_at : {R : Type 0} → (R → ℕ) → ℕ → List R → ℕ
place_at number n xs = place_from number n 0 xs

-- the list without the line at i, if there is one
abbrev pub without : {R : Type 0} → List R → ℕ → List R
without xs i = remove xs i

-- each line has a number above n
abbrev pub Above : {R : Type 0} → (R → ℕ) → ℕ → List R → Type 0
Above number n [] = Unit {0}
Above number n (x ∷ xs) = (n < number x) × Above number n xs

-- the lines are in rising number
abbrev pub Rising : {R : Type 0} → (R → ℕ) → List R → Type 0
Rising number [] = Unit {0}
Rising number (x ∷ xs) = Above number (number x) xs × Rising number xs

-- no line but the one at i has the number n
abbrev pub Only : {R : Type 0} → (R → ℕ) → ℕ → List R → ℕ → Type 0
Only {R} number n xs i = (j : ℕ) (x : R) → slice_get xs j ≡ Some x → number x ≡ n → j ≡ i
