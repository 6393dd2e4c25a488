use Rattle.std.proofs.Common.{sym, ap, subst}
use Rattle.register.specs.Held.{held}
use Rattle.settlement.specs.Book.{place_of}
use Rattle.settlement.specs.Objecting.{waits}
use Rattle.settlement.specs.Objections.{Pending}
use Rattle.settlement.proofs.Finds.{none_here, record_here, pending_there}
use Rattle.settlement.proofs.objections.pending.Goals as goal

pub returns : goal.returns
returns c =
    let os = held c.args.objections.now in
    let at = record_here place_of c.args.place c.in_ok-i.i os c.in_ok-i.objection c.in_ok-i.ensures.first c.in_ok-i.ensures.line in
    subst (Pending c.args.place os) (sym c.then_some.ensures) (pending_there c.args.place os _ _ at)

pub returns-in_err-i : goal.returns-in_err-i
returns-in_err-i c = rw c.from_residual.ensures (ap waits (none_here place_of c.args.place (held c.args.objections.now) c.in_err-i.ensures.first).none)
