-- A number of as many digits as there are places taken. Assumes nothing.
use Rattle.std.proofs.Common.{◌≡◌, ℕ, zero, suc, ◌+◌, ◌-◌, ◌*◌, ◌^◌, ◌<◌, ◌≤◌, Bool, true, false, cond, List, [], ◌∷◌, ◌++◌, length, get_or, drop, sym, refl, ap, ap₂, ◌&&◌, ◌∙◌, subst, mul-le-mul_right, mul_assoc, mul_comm, pow-suc, le-mul_of_pos_right, arith, lit<, rules}
use borrow.Author.Tests.{tests}
use native.Mathlib.Nat.{pow-le-pow_right}
use Rattle.std.specs.Char.{is_ascii_digit}
use Rattle.std.specs.List.{take_while, prefix_len}
use Rattle.std.proofs.lemmas.List.Sums.{take_while-cons}
use Rattle.std.specs.Str.{all_ascii_digits}
use Rattle.console.specs.Format.{LacksDigit}
use Rattle.console.specs.Grammar.{read_on}
use Rattle.console.proofs.Grammar.{first_digit, rest_digits}

ten_more : (room : ℕ) → 0 < room → 10 ^ room ≡ 10 * 10 ^ (room - 1)
ten_more room h =
    let e : room ≡ suc (room - 1) = omega arith in
    ap (λ n. 10 ^ n) e ∙ pow-suc 10 (room - 1) ∙ mul_comm (10 ^ (room - 1)) 10

whole : (v room : ℕ) → 0 < room → (v + 1) * 10 ^ room ≡ (v + 1) * 10 * 10 ^ (room - 1)
whole v room h = ap (λ p. (v + 1) * p) (ten_more room h) ∙ sym (mul_assoc (v + 1) 10 (10 ^ (room - 1)))

-- one digit more, in one place less
pub place_more : (v d room : ℕ) → 0 < room → d < 10 → (v + 1) * 10 ^ room ≤ 10 ^ 9 → (v * 10 + d + 1) * 10 ^ (room - 1) ≤ 10 ^ 9
place_more v d room h b l =
    let digit : v * 10 + d + 1 ≤ (v + 1) * 10 = omega arith in
    let step = mul-le-mul_right (10 ^ (room - 1)) digit in
    let e = whole v room h in
    omega arith

ten_pos : (k : ℕ) → 0 < 10 ^ k
ten_pos k = pow-le-pow_right (lit< tt) {i = 0} (omega arith)

-- while a place is left, one more digit fits
pub place_fits : (v room : ℕ) → 0 < room → (v + 1) * 10 ^ room ≤ 10 ^ 9 → (v + 1) * 10 ≤ 10 ^ 9
place_fits v room h l =
    let step = le-mul_of_pos_right ((v + 1) * 10) (ten_pos (room - 1)) in
    let e = whole v room h in
    omega arith

-- at the end, whatever room is left
pub place_all : (v room : ℕ) → (v + 1) * 10 ^ room ≤ 10 ^ 9 → v < 10 ^ 9
place_all v room l = omega (arith, le-mul_of_pos_right (v + 1) (ten_pos room))

-- a digit is one of 48 to 57
pub digit_at : (ds : List ℕ) (i d : ℕ) → all_ascii_digits ds ≡ true → i < length ds → (48 ≤ get_or ds i d) × (get_or ds i d ≤ 57)
digit_at [] i d a h = absurd (omega arith)
digit_at (c ∷ cs) zero d a h = let p = first_digit c cs a in search (rules, tests)
digit_at (c ∷ cs) (suc i) d a h = digit_at cs i d (rest_digits c cs a) (omega arith)

-- what digits write, with one more digit
pub read_on_push : (n : ℕ) (ds : List ℕ) (c : ℕ) → read_on n (ds ++ (c ∷ [])) ≡ read_on n ds * 10 + (c - 48)
read_on_push n [] c = refl
read_on_push n (d ∷ ds) c = read_on_push (n * 10 + (d - 48)) ds c

-- the digits at the front of a text
pub front_digits : (xs : List ℕ) → all_ascii_digits (take_while is_ascii_digit xs) ≡ true
front_digits [] = refl
front_digits (c ∷ cs) = ap all_ascii_digits (take_while-cons is_ascii_digit c cs) ∙ go (is_ascii_digit c) refl (front_digits cs)
  where
    go : (t : Bool) → is_ascii_digit c ≡ t → all_ascii_digits (take_while is_ascii_digit cs) ≡ true
        → all_ascii_digits (cond t (c ∷ take_while is_ascii_digit cs) []) ≡ true
    go true e more = ap₂ (λ (b x : Bool). b && x) e more
    go false e more = refl

-- and what follows them
pub digits_stop : (xs : List ℕ) → LacksDigit (drop (prefix_len is_ascii_digit xs) xs)
digits_stop [] = tt
digits_stop (c ∷ cs) = go (is_ascii_digit c) refl (digits_stop cs)
  where
    go : (t : Bool) → is_ascii_digit c ≡ t → LacksDigit (drop (prefix_len is_ascii_digit cs) cs)
        → LacksDigit (drop (cond t (1 + prefix_len is_ascii_digit cs) 0) (c ∷ cs))
    go true e more =
        let next : suc (prefix_len is_ascii_digit cs) ≡ 1 + prefix_len is_ascii_digit cs = omega arith in
        subst (λ n. LacksDigit (drop n (c ∷ cs))) next more
    go false e more = e
