use Rattle.std.proofs.Common.{sym, ◌∙◌}
use Rattle.settlement.proofs.Renewals.{count_long}
use Rattle.settlement.proofs.roster.party_count.Goals as goal

pub returns : goal.returns
returns c = record { count = c.count.ensures.count ∙ sym (count_long c.args.roster.now); limit = c.count.ensures.limit }
