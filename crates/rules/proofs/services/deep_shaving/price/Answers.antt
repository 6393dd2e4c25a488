use Rattle.std.proofs.Common.{ℕ, ◌*◌, leb, rules, arith}
use Rattle.std.proofs.lemmas.Iterator.{YieldsList-from_slice}
use Rattle.std.proofs.lemmas.Iterator.Search.{find_from_yields_List}
use borrow.Author.Tests.{tests}
use Rattle.rules.specs.Services.{bands}
use Rattle.rules.proofs.services.deep_shaving.price.Goals as goal

pub returns : goal.returns
returns c =
    let reached = λ (band : ℕ × ℕ). leb (c.args.capacity * band.0) (c.args.output * 100) in
    let found = find_from_yields_List reached _ _ c.find.result c.find.ensures.ran (YieldsList-from_slice bands cc) (λ x b q k. search (rules, tests)) in
    grind arith
