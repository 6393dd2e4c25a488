-- What `parsed` reads is the grammar's. Assumes nothing.
use Rattle.std.proofs.Common.{◌≡◌, ℕ, zero, suc, ◌+◌, ◌-◌, ◌*◌, ◌<◌, ◌≤◌, Bool, true, false, cond, eqb, List, [], ◌∷◌, ◌++◌, length, Some, None, Option, refl, ap, subst, arith, rules}
use borrow.Author.Tests.{eqb-false}
use Rattle.std.proofs.lemmas.Bool.Decides.{nat_tests}
use Rattle.std.specs.Char.{is_ascii_digit}
use Rattle.std.specs.Str.{all_ascii_digits}
use Rattle.console.specs.Format.{LacksDigit, ended, numeral}
use Rattle.console.specs.Grammar.{read_on}

pub first_digit : (d : ℕ) (ds : List ℕ) → all_ascii_digits (d ∷ ds) ≡ true → is_ascii_digit d ≡ true
first_digit d ds a = search rules

pub rest_digits : (d : ℕ) (ds : List ℕ) → all_ascii_digits (d ∷ ds) ≡ true → all_ascii_digits ds ≡ true
rest_digits d ds a = search rules

-- digits, and no digit after them, are read whole
pub numeral_reads : (room n : ℕ) (ds rest : List ℕ) → room ≤ 9 → all_ascii_digits ds ≡ true → length ds ≤ room → (length ds ≡ 0 → room ≡ 9 → ⊥) → LacksDigit rest
    → numeral room n (ds ++ rest) ≡ Some (read_on n ds, rest)
numeral_reads room n [] [] b a l h x = grind (arith, nat_tests)
numeral_reads room n [] (c ∷ cs) b a l h x = grind (arith, nat_tests)
numeral_reads room n (d ∷ ds) rest b a l h x =
    let p = first_digit d ds a in
    let z : eqb room 0 ≡ false = search rules in
    simp (p, z) (numeral_reads (room - 1) (n * 10 + (d - 48)) ds rest (omega arith) (rest_digits d ds a) (omega arith) (λ _ e. omega arith) x)

-- more digits than there is room for are not
pub numeral_long : (room n : ℕ) (ds rest : List ℕ) → all_ascii_digits ds ≡ true → room < length ds → numeral room n (ds ++ rest) ≡ None
numeral_long room n [] rest a h = absurd (omega arith)
numeral_long zero n (d ∷ ds) rest a h = simp (first_digit d ds a)
numeral_long (suc room) n (d ∷ ds) rest a h =
    let z : eqb (suc room) 0 ≡ false = search rules in
    let m : suc room - 1 ≡ room = omega arith in
    simp (first_digit d ds a, z, m) (numeral_long room (n * 10 + (d - 48)) ds rest (rest_digits d ds a) (omega arith))

-- and neither is a text with no digit first
pub numeral_none : (n : ℕ) (rest : List ℕ) → LacksDigit rest → numeral 9 n rest ≡ None
numeral_none n [] x = refl
numeral_none n (c ∷ cs) x = simp x

-- and what is read is digits, with no digit after them
pub record Front (room n : ℕ) (xs : List ℕ) (v : ℕ) (rest : List ℕ) : Type 0 where
  pub ds : List ℕ
  pub text : xs ≡ ds ++ rest
  pub digits : all_ascii_digits ds ≡ true
  pub few : length ds ≤ room
  pub some : length ds ≡ 0 → room ≡ 9 → ⊥
  pub stops : LacksDigit rest
  pub value : read_on n ds ≡ v

ended_by : (b : Bool) (p q : ℕ × List ℕ) → cond {A = Option (ℕ × List ℕ)} b None (Some p) ≡ Some q → (b ≡ false) × (p ≡ q)
ended_by true p q e = let z : ◌≡◌ {A = ℕ} 0 1 = cc in absurd (omega arith)
ended_by false p q e = (refl, cc)

none_front : (room n : ℕ) (xs : List ℕ) (v : ℕ) (rest : List ℕ) → LacksDigit xs → ended room n xs ≡ Some (v, rest) → Front room n xs v rest
none_front room n xs v rest x e =
    let r = ended_by (eqb room 9) (n, xs) (v, rest) e in
    let same = ap (λ (p : ℕ × List ℕ). p.1) r.1 in
    record {
      ds = [];
      text = same;
      digits = refl;
      few = omega arith;
      some = λ _ h. eqb-false room 9 r.0 h;
      stops = subst LacksDigit same x;
      value = ap (λ (p : ℕ × List ℕ). p.0) r.1;
    }

one_front : (t u : Bool) (room n c : ℕ) (cs : List ℕ) (v : ℕ) (rest : List ℕ) → is_ascii_digit c ≡ t → eqb room 0 ≡ u
    → (numeral (room - 1) (n * 10 + (c - 48)) cs ≡ Some (v, rest) → Front (room - 1) (n * 10 + (c - 48)) cs v rest)
    → cond t (cond u None (numeral (room - 1) (n * 10 + (c - 48)) cs)) (ended room n (c ∷ cs)) ≡ Some (v, rest) → Front room n (c ∷ cs) v rest
one_front false u room n c cs v rest a z more e = none_front room n (c ∷ cs) v rest a e
one_front true true room n c cs v rest a z more e = let w : ◌≡◌ {A = ℕ} 0 1 = cc in absurd (omega arith)
one_front true false room n c cs v rest a z more e =
    let f = more e in
    let full = eqb-false room 0 z in
    record {
      ds = c ∷ f.ds;
      text = ap (λ t. c ∷ t) f.text;
      digits = simp a f.digits;
      few = omega (arith, f.few);
      some = λ h _. omega arith;
      stops = f.stops;
      value = f.value;
    }

pub numeral_is : (room n : ℕ) (xs : List ℕ) (v : ℕ) (rest : List ℕ) → room ≤ 9 → numeral room n xs ≡ Some (v, rest) → Front room n xs v rest
numeral_is room n [] v rest b e = none_front room n [] v rest tt e
numeral_is room n (c ∷ cs) v rest b e =
    one_front (is_ascii_digit c) (eqb room 0) room n c cs v rest refl refl
    (λ q. numeral_is (room - 1) (n * 10 + (c - 48)) cs v rest (omega arith) q) e
