use Rattle.std.proofs.Common.{rules}
use Rattle.std.proofs.lemmas.Iterator.{YieldsList-from_slice}
use Rattle.std.proofs.lemmas.Iterator.Search.{any_from_yields_List}
use borrow.Author.Tests.{tests}
use Rattle.settlement.proofs.month.settling.is_waited_for.Goals as goal

pub returns : goal.returns
returns c = any_from_yields_List (λ o. o.waiting) _ _ _ c.any.ensures.ran (YieldsList-from_slice c.args.objections.now cc) (λ x b q k. search (rules, tests))
