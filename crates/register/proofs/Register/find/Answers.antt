use Rattle.std.proofs.Common.{◌≡◌, ◌∙◌, nat_eq, rules}
use Rattle.std.proofs.lemmas.Iterator.{YieldsList-from_slice}
use Rattle.std.proofs.lemmas.Iterator.Adapters.{position_from-zero}
use Rattle.std.proofs.lemmas.Iterator.Search.{position_from_yields_List}
use borrow.Author.Tests.{tests}
use Rattle.register.specs.Numbered.{first_at}
use Rattle.register.specs.Held.{held}
use Rattle.register.proofs.Rises.{only_first}
use Rattle.register.proofs.Register.find.Goals as goal

pub returns-clause-only : goal.returns-clause-only
returns-clause-only g c =
    let number = g.R.Keyed.number in
    let lines = held c.args.self.now in
    let has = λ (line : g.row.R.Denot). nat_eq (number line) c.args.number in
    let first : c.position.result ≡ first_at number c.args.number lines =
    position_from_yields_List has _ _ c.position.result c.position.ensures.ran (YieldsList-from_slice lines cc) (λ x b q k. search (rules, tests)) ∙ position_from-zero has lines in
    only_first number c.args.number lines _ first
