-- Renewing one line after another. Assumes nothing.
use Rattle.std.proofs.Common.{◌≡◌, ℕ, zero, suc, ◌+◌, List, [], ◌∷◌, map, length, take, set, Some, None, sym, refl, ap, ◌∙◌, arith}
use Rattle.std.specs.List.{slice_get}
use Rattle.std.proofs.lemmas.List.{length-map, length-take, length-set}
use Rattle.register.specs.declared.Register.{Register}
use Rattle.register.specs.Held.{held, count, Kept}
use Rattle.billing.specs.declared.party.Party.{Party}
use Rattle.billing.specs.Lent.{line_of, lined, lines_of}
use Rattle.billing.specs.Lines.{Line}
use Rattle.settlement.specs.Settling.{renewed}

-- a line that is renewed twice is renewed once
all_set : (ls : List Line) (i : ℕ) (l : Line) → slice_get ls i ≡ Some l → map renewed (set ls i (renewed l)) ≡ map renewed ls
all_set [] i l e = refl
all_set (x ∷ ls) zero l e = let s : l ≡ x = cc in ap (λ v. renewed v ∷ map renewed ls) s
all_set (x ∷ ls) (suc i) l e = ap (λ v. renewed x ∷ v) (all_set ls i l e)

front_set : (ls : List Line) (i : ℕ) (l : Line) → slice_get ls i ≡ Some l → take i ls ≡ map renewed (take i ls) → take (suc i) (set ls i (renewed l)) ≡ map renewed (take (suc i) (set ls i (renewed l)))
front_set [] i l e f = refl
front_set (x ∷ ls) zero l e f = refl
front_set (x ∷ ls) (suc i) l e f =
    let here : x ≡ renewed x = cc in
    let rest : take i ls ≡ map renewed (take i ls) = cc in
    ap (λ v. v ∷ take (suc i) (set ls i (renewed l))) here ∙ ap (λ v. renewed x ∷ v) (front_set ls i l e rest)

past : (ls : List Line) (i : ℕ) → slice_get ls i ≡ None → take (suc i) ls ≡ take i ls
past [] zero e = refl
past [] (suc i) e = refl
past (x ∷ ls) zero e = absurd (let z : ◌≡◌ {A = ℕ} 0 1 = cc in omega arith)
past (x ∷ ls) (suc i) e = ap (λ v. x ∷ v) (past ls i e)

-- Renewed so far: all lines renew alike, and those in front are renewed.
pub record SoFar (before after : List Line) (i : ℕ) : Type 0 where
  pub alike : map renewed after ≡ map renewed before
  pub front : take i after ≡ map renewed (take i after)

pub one_more : (before ls ls' : List Line) (i : ℕ) (l r : Line) → Some l ≡ slice_get ls i → r ≡ renewed l → ls' ≡ set ls i r → SoFar before ls i → SoFar before ls' (i + 1)
one_more before ls ls' i l r e n s far =
    let is : ls' ≡ set ls i (renewed l) = s ∙ ap (set ls i) n in
    let k : i + 1 ≡ suc i = omega arith in
    record {
      alike = ap (map renewed) is ∙ (all_set ls i l (sym e) ∙ far.alike);
      front = ap (λ j. take j ls') k ∙ (ap (take (suc i)) is ∙ (front_set ls i l (sym e) far.front ∙ (ap (λ v. map renewed (take (suc i) v)) (sym is) ∙ ap (λ j. map renewed (take j ls')) (sym k))));
    }

pub none_more : (before ls : List Line) (i : ℕ) → None ≡ slice_get ls i → SoFar before ls i → SoFar before ls (i + 1)
none_more before ls i e far =
    let k : i + 1 ≡ suc i = omega arith in
    let t : take (i + 1) ls ≡ take i ls = ap (λ j. take j ls) k ∙ past ls i (sym e) in
    record { alike = far.alike; front = t ∙ (far.front ∙ ap (map renewed) (sym t)) }

-- the lines of a register, one by one
pub nth_lined : (ps : List Party) (i : ℕ) → lined (slice_get ps i) ≡ slice_get (map line_of ps) i
nth_lined [] i = refl
nth_lined (p ∷ ps) zero = refl
nth_lined (p ∷ ps) (suc i) = nth_lined ps i

pub count_long : (r : Register Party 64) → length (lines_of r) ≡ count r
count_long r = length-map (held r) line_of ∙ (length-take (count r) r.lines.now ∙ omega arith)

pub same_count : (r r' : Register Party 64) (i : ℕ) (l : Line) → lines_of r' ≡ set (lines_of r) i l → count r' ≡ count r
same_count r r' i l e = omega (arith, count_long r, count_long r', ap length e, length-set (lines_of r) i l)

pub kept_twice : {R : Type 0} {limit : ℕ} (a b c : Register R limit) → count b ≡ count a → Kept a b → Kept b c → Kept a c
kept_twice a b c n k j = record {
  lent = j.lent ∙ k.lent;
  long = j.long ∙ k.long;
  beyond = λ m p q. j.beyond m (omega arith) q ∙ k.beyond m p (omega arith);
}
