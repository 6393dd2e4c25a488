use Rattle.std.proofs.Common.{◌≡◌, [], ◌∷◌, refl, ◌∙◌, rules}
use Rattle.billing.specs.Sharing.{part, step, shares}
use Rattle.billing.proofs.sharing.hundred_in_three.Goals as goal

figures : shares 100 (1 ∷ 1 ∷ 1 ∷ []) ≡ 33 ∷ 33 ∷ 34 ∷ []
unfolding part step
figures = refl

pub returns-clause-figures : goal.returns-clause-figures
returns-clause-figures c =
    let given : c.share_out.new.shares ≡ shares 100 (1 ∷ 1 ∷ 1 ∷ []) = search rules in
    given ∙ figures
