use Rattle.std.proofs.Common.{leb, length, ap, ◌∙◌}
use Rattle.register.specs.Held.{held}
use Rattle.settlement.specs.Book.{place_of}
use Rattle.settlement.proofs.Finds.{entered_here, inserted, min_twice}
use Rattle.settlement.proofs.objections.lodge.Goals as goal

pub returns-clause-lodges : goal.returns-clause-lodges
returns-clause-lodges c =
    let register = c.args.objections.now in
    let i = (inserted _ _ register _ _ _ c.insert.ensures.inserts c.in_ok-map_err.ensures.cases).1 in
    record {
      spare = ap (λ n. leb n (length (held register))) (min_twice 16 _) ∙ i.spare;
      lines = i.holds ∙ entered_here place_of _ _ (held register) i.place;
    }
