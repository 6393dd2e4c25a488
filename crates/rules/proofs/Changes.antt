-- What the layers of the rulebooks do to a service is a change of its amounts. Assumes nothing.
use Rattle.std.proofs.Common.{◌≡◌, ℕ, ◌*◌, ◌<◌, ◌≤◌, min, true, ◌&&◌, ltb, leb, nat_abs, Ok, Err, sym, ap, ◌∙◌, inl, inr, mul-le-mul, arith, rules}
use Rattle.std.proofs.lemmas.Bool.{and_parts, leb-true, leb-false, le-leb, lt-leb, cond_both, cond-true, cond-false, cases_Bool}
use Rattle.rules.specs.declared.account.Account.TheVariants.{Charges}
use Rattle.rules.specs.declared.facts.Facts.{Facts}
use Rattle.rules.specs.declared.refusal.Refusal.TheVariants.{NotCovered, OutOfRange}
use Rattle.rules.specs.Answers.{Answer}
use Rattle.rules.specs.Division.{quotient}
use Rattle.rules.specs.Layers.{season, capped, grace}
use Rattle.rules.specs.Ranges.{in_range, peak, Sizes}
use Rattle.rules.specs.Rulebooks.{changed, in_season, after_grace}
use Rattle.rules.specs.Services.{Service, answer, named, up_to_ceiling, unplanned_outage, fixed_fee}
use Rattle.rules.proofs.Quotients.{quotient_bound}

-- facts in range have their sizes
pub sizes : (f : Facts) → in_range f ≡ true → Sizes f
unfolding in_range
sizes f h =
    let s = and_parts _ _ (and_parts _ _ h).0 in
    let t = and_parts _ _ s.0 in
    record {
      capacity = leb-true _ _ (and_parts _ _ t.0).1;
      x = leb-true _ _ t.1;
      y = leb-true _ _ s.1;
    }

-- a layer that leaves refusals as they are, and makes of each accepted answer the changed one, is a change of the service
pub changed_by : (layer : Answer → Answer) (change : Facts → ℕ → ℕ) (s : Service) (f : Facts)
    → layer (Err NotCovered) ≡ Err NotCovered
    → layer (Err OutOfRange) ≡ Err OutOfRange
    → (in_range f ≡ true → s.fits f ≡ true → layer (up_to_ceiling (s.account f) (s.amount f)) ≡ up_to_ceiling (s.account f) (change f (s.amount f)))
    → layer (answer s f) ≡ answer (changed change s) f
changed_by layer change s f none out here =
    elim (cases_Bool (named s f)) [
      | inl names ↦
          elim (cases_Bool (in_range f && s.fits f)) [
            | inl fit ↦
                let p = and_parts _ _ fit in
                ap layer (cond-true _ _ _ names ∙ cond-true _ _ _ fit) ∙ here p.0 p.1 ∙ sym (cond-true _ _ _ names ∙ cond-true _ _ _ fit)
            | inr unfit ↦ ap layer (cond-true _ _ _ names ∙ cond-false _ _ _ unfit) ∙ out ∙ sym (cond-true _ _ _ names ∙ cond-false _ _ _ unfit)
          ]
      | inr other ↦ ap layer (cond-false _ _ _ other) ∙ none ∙ sym (cond-false _ _ _ other)
    ]

-- five times what is over the ceiling is over the ceiling too
pub season_amount : (f : Facts) (amount : ℕ) → season f (up_to_ceiling Charges amount) ≡ up_to_ceiling Charges (in_season f amount)
season_amount f amount =
    elim (cases_Bool (leb amount 1_000_000_000)) [
      | inl small ↦
          elim (cases_Bool (peak f)) [
            | inl p ↦ ap (season f) (cond-true _ _ _ small) ∙ cond-true _ _ _ p ∙ ap (up_to_ceiling Charges) (sym (cond-true _ _ _ p))
            | inr p ↦
                ap (season f) (cond-true _ _ _ small) ∙ cond-false _ _ _ p ∙ sym (cond-true _ _ _ small) ∙ ap (up_to_ceiling Charges) (sym (cond-false _ _ _ p))
          ]
      | inr big ↦
          let b = leb-false amount 1_000_000_000 big in
          let over : 1_000_000_000 < in_season f amount = cond_both (peak f) (amount * 5) amount (λ n. 1_000_000_000 < n) (λ _. omega arith) (λ _. b) in
          ap (season f) (cond-false _ _ _ big) ∙ sym (cond-false _ _ _ (lt-leb _ _ over))
    ]

-- an amount up to the ceiling, free before a month and capped after
pub grace_amount : (f : Facts) (amount : ℕ) → amount ≤ 1_000_000_000 → grace 24_302 f (capped 5_000_000 (up_to_ceiling Charges amount)) ≡ up_to_ceiling Charges (after_grace f amount)
grace_amount f amount h =
    let below : grace 24_302 f (capped 5_000_000 (up_to_ceiling Charges amount)) ≡ grace 24_302 f (Ok (Charges, min amount 5_000_000)) =
    ap (λ a. grace 24_302 f (capped 5_000_000 a)) (cond-true _ _ _ (le-leb _ _ h))
    in
    elim (cases_Bool (ltb f.month_count 24_302)) [
      | inl early ↦ below ∙ cond-true _ _ _ early ∙ ap (up_to_ceiling Charges) (sym (cond-true _ _ _ early))
      | inr late ↦
          let fits : min amount 5_000_000 ≤ 1_000_000_000 = omega arith in
          below ∙ cond-false _ _ _ late ∙ sym (cond-true _ _ _ (le-leb _ _ fits)) ∙ ap (up_to_ceiling Charges) (sym (cond-false _ _ _ late))
    ]

pub outage_at_most : (f : Facts) → Sizes f → unplanned_outage.amount f ≤ 544_000_000
outage_at_most f s =
    let minutes : min (nat_abs f.y) 2_880 ≤ 2_880 = omega arith in
    let time : quotient (f.capacity * min (nat_abs f.y) 2_880) 30 ≤ 384_000_000 = quotient_bound 30 (mul-le-mul s.capacity minutes) in
    omega arith

pub fee_at_most : (f : Facts) → fixed_fee.fits f ≡ true → fixed_fee.amount f ≤ 10_000_000
fee_at_most f h = search rules
