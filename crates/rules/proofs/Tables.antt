-- Chapters of services are a table by number. Assumes nothing.
use Rattle.std.proofs.Common.{◌≡◌, ℕ, Bool, true, false, not, ◌&&◌, eqb, leb, List, [], ◌∷◌, ◌++◌, Ok, Err, sym, refl, ap, ◌∙◌, inl, inr}
use Rattle.std.proofs.lemmas.Bool.{and_parts, cond_both, cond-true, cond-false, cases_Bool, eqb-true, not-true, and_left}
use Rattle.rules.specs.declared.facts.Facts.{Facts}
use Rattle.rules.specs.declared.refusal.Refusal.TheVariants.{NotCovered, OverCeiling}
use Rattle.rules.specs.Answers.{Answer}
use Rattle.rules.specs.Layers.{or_else}
use Rattle.rules.specs.Ranges.{in_range}
use Rattle.rules.specs.Rulebooks.{table}
use Rattle.rules.specs.Services.{Service, answer, named}

-- no line has this number
abbrev pub free : ℕ → List (ℕ × Service) → Bool
free n [] = true
free n (line ∷ lines) = not (eqb n line.0) && free n lines

-- each line has its service's number, which no later line has
abbrev pub numbered : List (ℕ × Service) → Bool
numbered [] = true
numbered (line ∷ lines) = eqb line.1.number line.0 && free line.0 lines && numbered lines

-- the services of some lines as chapters before a last answer
abbrev pub chained : List (ℕ × Service) → Facts → Answer → Answer
chained [] f last = last
chained (line ∷ lines) f last = or_else (answer line.1 f) (chained lines f last)

-- a service whose second chapter covers nothing is left as it is
pub or_else_none : (s : Service) (f : Facts) → or_else (answer s f) (Err NotCovered) ≡ answer s f
or_else_none s f =
    let P : Answer → Type 0 = λ a. or_else a (Err NotCovered) ≡ a in
    cond_both (named s f) _ _ P
    (λ _. cond_both (in_range f && s.fits f) _ _ P (λ _.
    cond_both (leb (s.amount f) 1_000_000_000) (Ok (s.account f, s.amount f)) (Err OverCeiling) P (λ _. refl) (λ _. refl)) (λ _. refl))
    (λ _. refl)

-- of another number a service covers nothing
pub other_number : (s : Service) (f : Facts) → eqb f.service s.number ≡ false → answer s f ≡ Err NotCovered
other_number s f e = cond-false _ _ _ (and_left _ _ e)

pub table_free : (lines : List (ℕ × Service)) (f : Facts) → free f.service lines ≡ true → table lines f ≡ Err NotCovered
unfolding table
table_free [] f h = refl
table_free (line ∷ lines) f h =
    let p = and_parts _ _ h in
    cond-false _ _ _ (not-true _ p.0) ∙ table_free lines f p.1

-- one chapter before a table is one line more
pub line_first : (n : ℕ) (s : Service) (lines : List (ℕ × Service)) (f : Facts)
    → s.number ≡ n → free n lines ≡ true
    → or_else (answer s f) (table lines f) ≡ table ((n, s) ∷ lines) f
unfolding table
line_first n s lines f e h =
    elim (cases_Bool (eqb f.service n)) [
      | inl same ↦
          let none : table lines f ≡ Err NotCovered = table_free lines f (rw (eqb-true _ _ same) h) in
          ap (or_else (answer s f)) none ∙ or_else_none s f ∙ sym (cond-true _ _ _ same)
      | inr other ↦ ap (λ a. or_else a (table lines f)) (other_number s f (rw e other)) ∙ sym (cond-false _ _ _ other)
    ]

pub chained_table : (lines last : List (ℕ × Service)) (f : Facts) → numbered (lines ++ last) ≡ true → chained lines f (table last f) ≡ table (lines ++ last) f
chained_table [] last f h = refl
chained_table (line ∷ lines) last f h =
    let p = and_parts _ _ h in
    let q = and_parts _ _ p.0 in
    ap (or_else (answer line.1 f)) (chained_table lines last f p.1)
    ∙ line_first line.0 line.1 (lines ++ last) f (eqb-true _ _ q.0) q.1
