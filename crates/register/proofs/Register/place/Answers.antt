use Rattle.std.proofs.Common.{◌≡◌, ◌∙◌, nat_lt, rules}
use Rattle.std.specs.List.{position_from}
use Rattle.std.proofs.lemmas.Iterator.{YieldsList-from_slice}
use Rattle.std.proofs.lemmas.Iterator.Adapters.{position_from-zero}
use Rattle.std.proofs.lemmas.Iterator.Search.{position_from_yields_List}
use borrow.Author.Tests.{tests}
use Rattle.register.specs.Held.{held}
use Rattle.register.proofs.Lines.{place_is}
use Rattle.register.proofs.Register.place.Goals as goal

pub returns-clause-place : goal.returns-clause-place
returns-clause-place g c =
    let number = g.R.Keyed.number in
    let lines = held c.args.self.now in
    let above = λ (line : g.row.R.Denot). nat_lt c.args.number (number line) in
    let first : c.position.result ≡ position_from above 0 lines =
    position_from_yields_List above _ _ c.position.result c.position.ensures.ran (YieldsList-from_slice lines cc) (λ x b q k. search (rules, tests)) ∙ position_from-zero above lines in
    let place = place_is number c.args.number lines in
    let same = c.held-lines.ensures.held in
    cc
