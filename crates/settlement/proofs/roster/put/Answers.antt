use Rattle.std.proofs.Common.{map, ap, ◌∙◌}
use Rattle.register.specs.Held.{held}
use Rattle.std.proofs.lemmas.List.{map-set}
use Rattle.billing.specs.Lent.{line_of}
use Rattle.settlement.proofs.roster.put.Goals as goal

pub returns : goal.returns
returns c = record {
  lines = ap (map line_of) c.replace.ensures.holds ∙ map-set line_of (held c.args.roster.now) c.args.i c.args.party;
  kept = c.replace.ensures.kept;
}
