use Rattle.std.proofs.Common.{sym, ap, ◌∙◌, subst, arith}
use Rattle.billing.specs.Lent.{line_of, lined, lines_of}
use Rattle.settlement.specs.Finding.{LineFound}
use Rattle.settlement.proofs.Postings.{line_within, credit_held}
use Rattle.settlement.proofs.month.admitting.Month+Open.admit.Goals as goal

-- the account has room over all lines together,
-- and the line holds no more than they do
pub returns-in_err-party : goal.returns-in_err-party
returns-in_err-party g c =
    let lines = lines_of c.args.memory.now.roster in
    let line = line_of c.in_ok-line.party in
    let found = subst (LineFound c.args.event.now.party lines) c.in_ok-line.ensures.ok_part c.line_of.ensures in
    let within = line_within c.in_ok-account.account c.args.event.now.party lines line found.first in
    let total = c.account_total.ensures.total in
    absurd (credit_held c.in_ok-account.account c.in_ok-account.amount line (omega (arith, within, total)) (ap lined (sym c.in_err-party.ensures.ok_part) ∙ c.credited.ensures))
