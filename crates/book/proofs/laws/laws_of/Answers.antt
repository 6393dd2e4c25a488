use Rattle.book.proofs.Lawful.{every_run_lawful, every_run_within_limits}
use Rattle.book.proofs.laws.laws_of.Goals as goal

pub returns : goal.returns
returns g c =
    let means = g.P.Rule.meaning c.args.rulebook.now in
    let bounded = g.met.P.Rule.bounded c.args.rulebook.now in
    record { lawful = every_run_lawful means bounded; limits = every_run_within_limits means bounded }
