-- The choice of a rulebook. Assumes nothing.
use Rattle.std.specs.Prelude.{ℕ, cond, Some, None, Option, ◌==◌}
use Rattle.rules.specs.declared.facts.Facts.{Facts}
use Rattle.rules.specs.Answers.{Rulebook, Bounded}
use Rattle.rules.specs.Rulebooks.{table, rulebook_1, rulebook_2}
use Rattle.rules.specs.Bounds.{table_bounded}
use Rattle.console.specs.declared.choice.Choice.{Choice}
use Rattle.console.specs.declared.choice.Choice.TheVariants.{First, Second}

-- the choice of a number
abbrev pub choice_of : ℕ → Option Choice
choice_of n = cond (n == 1) (Some First) (cond (n == 2) (Some Second) None)

-- what the rulebook of a choice means
abbrev pub means_of : Choice → Rulebook
means_of First = table rulebook_1
means_of Second = table rulebook_2

-- no amount of the two passes the ceiling
pub means_within : (choice : Choice) (facts : Facts) → Bounded (means_of choice facts)
means_within First = table_bounded rulebook_1
means_within Second = table_bounded rulebook_2
