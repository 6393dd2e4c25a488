use Rattle.std.proofs.Common.{◌≡◌, reverse, ap, ◌∙◌, rules}
use borrow.Author.Tests.{tests}
use Rattle.std.specs.List.{find}
use Rattle.std.specs.Option.{option_map}
use Rattle.std.proofs.lemmas.Iterator.Search.{find_from_yields_List}
use Rattle.std.proofs.lemmas.Iterator.Adapters.{YieldsList-from_rev_slice}
use Rattle.records.proofs.Backs.{decides, is_posted, decided_back}
use Rattle.records.proofs.journal.posted_already.Goals as goal

pub returns : goal.returns
returns c =
    let e = c.args.event.now in
    let ws = c.args.words.now in
    let first : option_map (λ w. w.now) c.find.result ≡ find (decides e) (reverse ws) =
    find_from_yields_List (decides e) c.find.new.self _ c.find.result c.find.ensures.ran (YieldsList-from_rev_slice ws cc) (λ x b q k. search (rules, tests)) in
    let answer : c.is_some_and.result ≡ is_posted e (option_map (λ w. w.now) c.find.result) = search rules in
    answer ∙ (ap (is_posted e) first ∙ decided_back e ws)
