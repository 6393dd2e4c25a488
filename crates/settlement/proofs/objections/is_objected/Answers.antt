use Rattle.std.proofs.Common.{◌∙◌}
use Rattle.register.specs.Held.{held}
use Rattle.settlement.specs.Book.{place_of}
use Rattle.settlement.proofs.Finds.{has_found}
use Rattle.settlement.proofs.objections.is_objected.Goals as goal

pub returns : goal.returns
returns c = c.is_some.ensures ∙ has_found place_of c.args.place (held c.args.objections.now) _ c.find.ensures.first
