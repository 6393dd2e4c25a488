use Rattle.std.proofs.Common.{leb, map, length, ap, ◌∙◌}
use Rattle.std.proofs.lemmas.List.{length-map}
use Rattle.register.specs.Held.{held, room}
use Rattle.billing.specs.Lines.{number}
use Rattle.billing.specs.Lent.{line_of, lines_of}
use Rattle.settlement.proofs.Finds.{entered_at, inserted, min_twice}
use Rattle.settlement.proofs.roster.enter.Goals as goal

pub returns-clause-enters : goal.returns-clause-enters
returns-clause-enters c =
    let roster = c.args.roster.now in
    let i = (inserted _ _ roster _ _ _ c.insert.ensures.inserts c.in_ok-map_err.ensures.cases).1 in
    record {
      spare = ap (λ n. leb n (length (lines_of roster))) (min_twice 64 _) ∙ (ap (leb (room roster)) (length-map (held roster) line_of) ∙ i.spare);
      lines = ap (map line_of) i.holds ∙ entered_at number line_of c.args.party _ (held roster) i.place;
    }
