-- The chapters and layers of each rulebook are its table. Assumes nothing.
use Rattle.std.proofs.Common.{◌≡◌, ℕ, eqb, List, [], ◌∷◌, sym, refl, ap, ◌∙◌, inl, inr, arith}
use Rattle.std.proofs.lemmas.Bool.{cases_Bool, cond-true, cond-false}
use Rattle.rules.specs.declared.facts.Facts.{Facts}
use Rattle.rules.specs.Answers.{Answer}
use Rattle.rules.specs.Layers.{season, capped, grace, or_else}
use Rattle.rules.specs.Rulebooks.{table, changed, in_season, after_grace, rulebook_1, rulebook_2}
use Rattle.rules.specs.Services.{Service, answer, agc_regulation, deep_shaving, spinning_reserve, start_stop, ramp, load_control, storage_charging, unplanned_outage, fixed_fee}
use Rattle.rules.proofs.Changes.{changed_by, season_amount, grace_amount, outage_at_most, fee_at_most, sizes}
use Rattle.rules.proofs.Tables.{chained, chained_table, line_first, or_else_none}

-- services 1 to 7
abbrev pub payments : (rate factor : ℕ) → List (ℕ × Service)
payments rate factor =
    (1, agc_regulation rate)
    ∷ (2, deep_shaving factor)
    ∷ (3, spinning_reserve)
    ∷ (4, start_stop)
    ∷ (5, ramp)
    ∷ (6, load_control)
    ∷ (7, storage_charging)
    ∷ []

-- a service alone is a table of one line
alone : (s : Service) (f : Facts) → answer s f ≡ table ((s.number, s) ∷ []) f
unfolding table
alone s f = sym (or_else_none s f) ∙ line_first s.number s [] f refl refl

module _ (f : Facts) where
  seasonal : season f (answer unplanned_outage f) ≡ answer (changed in_season unplanned_outage) f
  seasonal = changed_by (season f) in_season unplanned_outage f refl refl (λ _ _. season_amount f (unplanned_outage.amount f))

  last_1 : or_else (season f (answer unplanned_outage f)) (answer fixed_fee f) ≡ table ((8, changed in_season unplanned_outage) ∷ (9, fixed_fee) ∷ []) f
  last_1 =
      ap (λ a. or_else a (answer fixed_fee f)) seasonal
      ∙ ap (or_else (answer (changed in_season unplanned_outage) f)) (alone fixed_fee f)
      ∙ line_first 8 (changed in_season unplanned_outage) ((9, fixed_fee) ∷ []) f refl refl

  pub book_1 : {rate factor : ℕ} → rate ≡ 10 → factor ≡ 10 → chained (payments rate factor) f (or_else (season f (answer unplanned_outage f)) (answer fixed_fee f)) ≡ table rulebook_1 f
  book_1 r k =
      rw (r, k) (
      ap (chained (payments 10 10) f) last_1
      ∙ chained_table (payments 10 10) ((8, changed in_season unplanned_outage) ∷ (9, fixed_fee) ∷ []) f refl
      )

  abbrev late : Answer → Answer
  late a = grace 24_302 f (capped 5_000_000 a)

  late_outage : late (answer unplanned_outage f) ≡ answer (changed after_grace unplanned_outage) f
  late_outage =
      changed_by late after_grace unplanned_outage f refl refl (λ range _.
      let most = outage_at_most f (sizes f range) in
      grace_amount f (unplanned_outage.amount f) (omega arith))

  late_fee : late (answer fixed_fee f) ≡ answer (changed after_grace fixed_fee) f
  late_fee =
      changed_by late after_grace fixed_fee f refl refl (λ _ fit.
      let most = fee_at_most f fit in
      grace_amount f (fixed_fee.amount f) (omega arith))

  late_table : late (table ((8, unplanned_outage) ∷ (9, fixed_fee) ∷ []) f) ≡ table ((8, changed after_grace unplanned_outage) ∷ (9, changed after_grace fixed_fee) ∷ []) f
  unfolding table
  late_table =
      elim (cases_Bool (eqb f.service 8)) [
        | inl e ↦ ap late (cond-true _ _ _ e) ∙ late_outage ∙ sym (cond-true _ _ _ e)
        | inr e ↦
            elim (cases_Bool (eqb f.service 9)) [
              | inl e' ↦ ap late (cond-false _ _ _ e ∙ cond-true _ _ _ e') ∙ late_fee ∙ sym (cond-false _ _ _ e ∙ cond-true _ _ _ e')
              | inr e' ↦ ap late (cond-false _ _ _ e ∙ cond-false _ _ _ e') ∙ sym (cond-false _ _ _ e ∙ cond-false _ _ _ e')
            ]
      ]

  last_2 : late (or_else (answer unplanned_outage f) (answer fixed_fee f)) ≡ table ((8, changed after_grace unplanned_outage) ∷ (9, changed after_grace fixed_fee) ∷ []) f
  last_2 =
      ap late (ap (or_else (answer unplanned_outage f)) (alone fixed_fee f) ∙ line_first 8 unplanned_outage ((9, fixed_fee) ∷ []) f refl refl) ∙ late_table

  pub book_2 : {rate factor before limit : ℕ} → rate ≡ 6 → factor ≡ 12 → before ≡ 24_302 → limit ≡ 5_000_000 → chained (payments rate factor) f (grace before f (capped limit (or_else (answer unplanned_outage f) (answer fixed_fee f)))) ≡ table rulebook_2 f
  book_2 r k b l =
      rw (r, k, b, l) (
      ap (chained (payments 6 12) f) last_2
      ∙ chained_table (payments 6 12) ((8, changed after_grace unplanned_outage) ∷ (9, changed after_grace fixed_fee) ∷ []) f refl
      )
