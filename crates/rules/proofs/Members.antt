-- What `==` of kinds, and a search of a list of kinds by it, say in the words of the definitions. Assumes nothing.
use Rattle.std.proofs.Common.{◌≡◌, suc, ◌||◌, List, [], ◌∷◌, refl, sym, ap, ◌∙◌}
use Rattle.std.specs.List.{list_any}
use denote.Enum.Bare.{sameb}
use denote.Enum.Declared.{tag_of}
use lib.Dec.{eqb-suc-suc}
use Rattle.rules.specs.contracts.kind.Kind.{the_type}
use Rattle.rules.specs.declared.kind.Kind.{Kind}
use Rattle.rules.specs.declared.kind.Kind.TheVariants.{Coal, Gas, Hydro, Wind, Solar, Storage, Market}
use Rattle.rules.specs.Kinds.{kind_number, is, one_of}

number : (k : Kind) → kind_number k ≡ suc (tag_of the_type k)
number Coal = refl
number Gas = refl
number Hydro = refl
number Wind = refl
number Solar = refl
number Storage = refl
number Market = refl

same_kind : (j k : Kind) → sameb the_type j k ≡ is j k
same_kind j k = rw (number j, number k) (sym (eqb-suc-suc _ _))

pub member : (kinds : List Kind) (k : Kind) → list_any (λ j. sameb the_type j k) kinds ≡ one_of kinds k
member [] k = refl
member (j ∷ kinds) k = ap (λ first. first || list_any (λ i. sameb the_type i k) kinds) (same_kind j k) ∙ ap (λ later. is j k || later) (member kinds k)
