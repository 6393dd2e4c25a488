-- What lines give that are answered one after another, and whether that was expected. Assumes nothing.
use Rattle.std.specs.Prelude.{◌≡◌, ℕ, Bool, true, false, ◌==◌, List, [], ◌∷◌, ◌++◌, length, take, Some, None, Option, MatchOption, ◌≢◌}
use Rattle.std.specs.Borrow.{Bor}
use Rattle.console.specs.declared.office.Office.{Office}
use Rattle.console.specs.Offices.{Answers, IsNew}
use Rattle.conformance.specs.declared.replay.Replayed.{Replayed}
use Rattle.conformance.specs.Lines.{lines}

-- a text, and then another, if there is one
abbrev pub before : List ℕ → Option (List ℕ) → Option (List ℕ)
before s None = None
before s (Some t) = Some (s ++ t)

-- From a desk with all that is lent to it, the lines are answered in turn. They give the texts of the answers, one after another; or
-- nothing, where an answer has no room on the page.
pub data Replay : Office → List (List ℕ) → Option (List ℕ) → Type 0 where
  ended : {o : Office} → Replay o [] (Some [])
  cramped : {o : Office} (o' : Office) {l : List ℕ} {ls : List (List ℕ)}
      → Answers o l None o' → Replay o (l ∷ ls) None
  answered : {o : Office} (o' : Office) {l : List ℕ} {ls : List (List ℕ)} {n : ℕ} {given : Option (List ℕ)}
      → Answers o l (Some n) o' → Replay o' ls given → Replay o (l ∷ ls) (before (take n o'.page.now) given)

-- what is said of so many lines and the text that they gave: whether it is the one expected
abbrev pub Verdict : ℕ → (expected : List ℕ) → (given : Option (List ℕ)) → Option Replayed → Type 0
Verdict n expected None r = r ≡ None
Verdict n expected (Some given) None = ⊥
Verdict n expected (Some given) (Some r) = (r.lines ≡ n) × (r.agrees ≡ true → given ≡ expected) × (given ≡ expected → r.agrees ≡ true)

-- the verdict on the lines of the commands
pub record Judged (o : Office) (commands expected : List ℕ) (r : Option Replayed) : Type 0 where
  pub given : Option (List ℕ)
  pub replay : Replay o (lines commands) given
  pub verdict : Verdict (length (lines commands)) expected given r

-- the verdict from no book yet, with memory of a book's full size and nothing in use
pub record JudgedAnew (commands expected : List ℕ) (r : Option Replayed) : Type 0 where
  pub office : Office
  pub new : IsNew office
  pub judged : Judged office commands expected r

-- what is left of an expected text after one that was given; nothing where they differ
abbrev pub Left : (expected given : List ℕ) → Option (Bor (List ℕ)) → Type 0
Left expected given r = MatchOption r ((rest : List ℕ) → expected ≢ given ++ rest) (λ left. expected ≡ given ++ left.now)

-- the same of what was left before, if anything was
abbrev pub After : Option (Bor (List ℕ)) → (given : List ℕ) → Option (Bor (List ℕ)) → Type 0
After None given r = r ≡ None
After (Some left) given r = Left left.now given r

-- the text given is the expected one where nothing of that is left
abbrev pub spent : Option (Bor (List ℕ)) → Bool
spent None = false
spent (Some left) = length left.now == 0
