use Rattle.std.proofs.Common.{sym, subst}
use Rattle.std.proofs.lemmas.Slice.Eq.{strip_prefix_is}
use Rattle.conformance.specs.Replays.{After}
use Rattle.conformance.proofs.replay.after.Goals as goal
use Rattle.std.proofs.lemmas.Bool.Decides.{Decides-eqb}

pub returns : goal.returns
returns c =
    let given = c.args.given.now in
    subst (λ e. After e given c.strip_prefix.result) (sym c.in_ok-expected.was)
    (strip_prefix_is Decides-eqb c.in_ok-expected.field-0.now given c.strip_prefix.result c.strip_prefix.ensures.cases)
