-- A reading that a line does not take. Assumes nothing.
use Rattle.std.proofs.Common.{◌≡◌, ℕ, ◌<◌, ◌≤◌, Bool, true, false, cond, ◌&&◌, ltb, leb, nat_abs, Some, None, refl, ap, ◌∙◌, arith}
use Rattle.std.proofs.lemmas.Bool.{lt-ltb, le-leb, leb-false}
use Rattle.billing.specs.declared.reading.Reading.{Reading}
use Rattle.billing.specs.Lines.{Line, takes, take_reading}

-- in the month and in its range, it is refused only since its slot has passed
pub late : (r : Reading) (l : Line) → r.slot < 8928 → nat_abs r.power ≤ 4_000_000 → None ≡ cond (takes r l) (Some (take_reading r l)) None →
    ltb r.slot l.passed ≡ true
late r l slot power e = go (leb l.passed r.slot) refl
  where
    go : (b : Bool) → leb l.passed r.slot ≡ b → ltb r.slot l.passed ≡ true
    go false z = lt-ltb _ _ (leb-false _ _ z)
    go true z =
        let all : takes r l ≡ true = λ i. lt-ltb r.slot 8928 slot i && (z i && le-leb (nat_abs r.power) 4_000_000 power i) in
        absurd (let none : None ≡ Some (take_reading r l) = e ∙ ap (λ t. cond t (Some (take_reading r l)) None) all in let n : ◌≡◌ {A = ℕ} 0 1 = cc in omega arith)
