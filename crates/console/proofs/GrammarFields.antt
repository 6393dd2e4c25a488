-- A field is read just where its text stands. Assumes nothing.
use Rattle.std.proofs.Common.{◌≡◌, ℕ, Bool, true, false, cond, eqb, ◌⊎◌, List, [], ◌∷◌, ◌++◌, length, ℤ, pos, neg_ℤ, Some, None, Option, sym, refl, ap, ◌∙◌, subst, inl, inr, ⊎_elim, arith, rules, eqb-true}
use Rattle.console.specs.Format.{LacksDigit, numeral, unsigned, signed, signedAt, negated, plain as asPlain, and_then}
use Rattle.console.specs.Grammar.{Number, Field, plain, net, FieldText, Fields}
use Rattle.console.proofs.Grammar.{numeral_reads, numeral_is, first_digit}

-- what follows a field begins with no digit
pub stops : (fs : List Field) (xs : List ℕ) → Fields fs xs → LacksDigit xs
stops [] xs e = subst LacksDigit (sym e) tt
stops (f ∷ fs) xs t = subst LacksDigit (sym t.2) refl

number_reads : (n : ℕ) (ds more : List ℕ) → Number n ds → LacksDigit more → numeral 9 0 (ds ++ more) ≡ Some (n, more)
number_reads n ds more t x =
    numeral_reads 9 0 ds more (omega arith) t.digits t.few (λ z _. omega (arith, t.some)) x
    ∙ ap (λ v. Some (v, more)) t.value

pub unsigned_reads : (n : ℕ) (ds more : List ℕ) → Number n ds → LacksDigit more → unsigned (32 ∷ (ds ++ more)) ≡ Some (n, more)
unsigned_reads n ds more t x = number_reads n ds more t x

signed_plain : (n : ℕ) (ds more : List ℕ) → Number n ds → LacksDigit more → signedAt (ds ++ more) ≡ Some (pos n, more)
signed_plain n [] more t x = absurd (omega (arith, t.some))
signed_plain n (d ∷ ds) more t x =
    let p = first_digit d ds t.digits in
    let q : eqb d 45 ≡ false = search rules in
    let r = number_reads n (d ∷ ds) more t x in
    rw q (ap asPlain r)

pub signed_reads : (z : ℤ) (ds more : List ℕ) → FieldText (net z) ds → LacksDigit more → signed (32 ∷ (ds ++ more)) ≡ Some (z, more)
signed_reads z ds more (inl t) x = signed_plain t.0 ds more t.1 x ∙ ap (λ y. Some (y, more)) (sym t.2)
signed_reads z ds more (inr t) x =
    ap (λ d. signedAt (d ++ more)) t.2
    ∙ ap negated (number_reads t.0 t.1 more t.3 x) ∙ ap (λ y. Some (y, more)) (sym t.4)

-- and the other way
pub then_is : {A B : Type 0} (o : Option (A × List ℕ)) (k : A → List ℕ → Option (B × List ℕ)) (r : B × List ℕ) → and_then o k ≡ Some r
    → (p : A × List ℕ) × (o ≡ Some p) × (k p.0 p.1 ≡ Some r)
then_is None k r e = let z : ◌≡◌ {A = ℕ} 0 1 = cc in absurd (omega arith)
then_is (Some p) k r e = (p, refl, e)

pub way : {A : Type 0} (b : Bool) (x y : Option A) (r : A) → cond b x y ≡ Some r → ((b ≡ true) × (x ≡ Some r)) ⊎ ((b ≡ false) × (y ≡ Some r))
way true x y r e = inl (refl, e)
way false x y r e = inr (refl, e)

pub none_is : {A : Type 0} (r : A) → ◌≡◌ {A = Option A} None (Some r) → ⊥
none_is r e = let z : ◌≡◌ {A = ℕ} 0 1 = cc in omega arith

number_is : (xs : List ℕ) (n : ℕ) (rest : List ℕ) → numeral 9 0 xs ≡ Some (n, rest) → (ds : List ℕ) × (xs ≡ ds ++ rest) × Number n ds
number_is xs n rest e =
    let f = numeral_is 9 0 xs n rest (omega arith) e in
    let h : length f.ds ≡ 0 → ⊥ = λ z. f.some z refl in
    (f.ds, f.text, record { digits = f.digits; some = omega arith; few = f.few; value = f.value })

pub unsigned_is : (xs : List ℕ) (n : ℕ) (rest : List ℕ) → unsigned xs ≡ Some (n, rest) → (ds : List ℕ) × (xs ≡ 32 ∷ (ds ++ rest)) × Number n ds
unsigned_is [] n rest e = absurd (none_is (n, rest) e)
unsigned_is (c ∷ cs) n rest e =
    ⊎_elim
    (λ w. let t = number_is cs n rest w.1 in (t.0, ap (λ d. d ∷ cs) (eqb-true c 32 w.0) ∙ ap (λ xs. 32 ∷ xs) t.1, t.2))
    (λ w. absurd (none_is (n, rest) w.1))
    (way (eqb c 32) (numeral 9 0 cs) None (n, rest) e)

signedAt_is : (xs : List ℕ) (z : ℤ) (rest : List ℕ) → signedAt xs ≡ Some (z, rest) → (ds : List ℕ) × (xs ≡ ds ++ rest) × FieldText (net z) ds
signedAt_is [] z rest e = absurd (none_is (z, rest) e)
signedAt_is (c ∷ cs) z rest e =
    ⊎_elim
    (λ w.
    let p = then_is (numeral 9 0 cs) (λ n more. Some (neg_ℤ (pos n), more)) (z, rest) w.1 in
    let q : (neg_ℤ (pos p.0.0), p.0.1) ≡ (z, rest) = cc p.2 in
    let t = number_is cs p.0.0 p.0.1 p.1 in (
      45 ∷ t.0,
      ap (λ d. d ∷ cs) (eqb-true c 45 w.0) ∙ ap (λ xs. 45 ∷ xs) t.1 ∙ ap (λ r. 45 ∷ (t.0 ++ r)) (ap (λ (u : ℤ × List ℕ). u.1) q),
      inr (p.0.0, t.0, refl, t.2, sym (ap (λ (u : ℤ × List ℕ). u.0) q)),
    ))
    (λ w.
    let p = then_is (numeral 9 0 (c ∷ cs)) (λ n more. Some (pos n, more)) (z, rest) w.1 in
    let q : (pos p.0.0, p.0.1) ≡ (z, rest) = cc p.2 in
    let t = number_is (c ∷ cs) p.0.0 p.0.1 p.1 in (
      t.0,
      t.1 ∙ ap (λ r. t.0 ++ r) (ap (λ (u : ℤ × List ℕ). u.1) q),
      inl (p.0.0, t.2, sym (ap (λ (u : ℤ × List ℕ). u.0) q)),
    ))
    (way (eqb c 45) (negated (numeral 9 0 cs)) (asPlain (numeral 9 0 (c ∷ cs))) (z, rest) e)

pub signed_is : (xs : List ℕ) (z : ℤ) (rest : List ℕ) → signed xs ≡ Some (z, rest) → (ds : List ℕ) × (xs ≡ 32 ∷ (ds ++ rest)) × FieldText (net z) ds
signed_is [] z rest e = absurd (none_is (z, rest) e)
signed_is (c ∷ cs) z rest e =
    ⊎_elim
    (λ w. let t = signedAt_is cs z rest w.1 in (t.0, ap (λ d. d ∷ cs) (eqb-true c 32 w.0) ∙ ap (λ xs. 32 ∷ xs) t.1, t.2))
    (λ w. absurd (none_is (z, rest) w.1))
    (way (eqb c 32) (signedAt cs) None (z, rest) e)

-- the fields of a text, one by one
pub read_plain : (n : ℕ) (fs : List Field) (xs : List ℕ) → Fields (plain n ∷ fs) xs → (ys : List ℕ) × (unsigned xs ≡ Some (n, ys)) × Fields fs ys
read_plain n fs xs t = (t.1, ap unsigned t.2 ∙ unsigned_reads n t.0 t.1 t.3 (stops fs t.1 t.4), t.4)

pub read_net : (z : ℤ) (fs : List Field) (xs : List ℕ) → Fields (net z ∷ fs) xs → (ys : List ℕ) × (signed xs ≡ Some (z, ys)) × Fields fs ys
read_net z fs xs t = (t.1, ap signed t.2 ∙ signed_reads z t.0 t.1 t.3 (stops fs t.1 t.4), t.4)

pub plain_read : (n : ℕ) (fs : List Field) (xs ys : List ℕ) → unsigned xs ≡ Some (n, ys) → Fields fs ys → Fields (plain n ∷ fs) xs
plain_read n fs xs ys e t = let d = unsigned_is xs n ys e in (d.0, ys, d.1, d.2, t)

pub net_read : (z : ℤ) (fs : List Field) (xs ys : List ℕ) → signed xs ≡ Some (z, ys) → Fields fs ys → Fields (net z ∷ fs) xs
net_read z fs xs ys e t = let d = signed_is xs z ys e in (d.0, ys, d.1, d.2, t)
