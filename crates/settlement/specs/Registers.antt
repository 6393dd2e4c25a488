-- Numbered records by their number, whatever the list holds: the first record of a number counts. Assumes nothing.
use Rattle.std.specs.Prelude.{ℕ, Bool, false, cond, ◌||◌, List, [], ◌∷◌, Some, None, Option, ◌==◌, nat_lt}
use Rattle.records.specs.declared.enrolment.Enrolment.{Enrolment}

-- parties go by their number
abbrev pub by_number : Enrolment → ℕ
by_number p = p.number

module _ {R : Type 0} (key : R → ℕ) where
  -- whether there is a record of the number
  abbrev pub has : ℕ → List R → Bool
  has n [] = false
  has n (r ∷ rs) = key r == n || has n rs

  -- the record of the number, if there is one
  abbrev pub found : ℕ → List R → Option R
  found n [] = None
  found n (r ∷ rs) = cond (key r == n) (Some r) (found n rs)

  -- the records with one more, before the first of a greater number
  abbrev pub entered : R → List R → List R
  entered r [] = r ∷ []
  entered r (q ∷ qs) = cond (nat_lt (key r) (key q)) (r ∷ q ∷ qs) (q ∷ entered r qs)

  -- the records with the one of the number changed
  abbrev pub changed : ℕ → (R → R) → List R → List R
  changed n f [] = []
  changed n f (r ∷ rs) = cond (key r == n) (f r ∷ rs) (r ∷ changed n f rs)

  -- the records without the one of the number
  abbrev pub removed : ℕ → List R → List R
  removed n [] = []
  removed n (r ∷ rs) = cond (key r == n) rs (r ∷ removed n rs)
