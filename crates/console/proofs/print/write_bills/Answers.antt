use Rattle.std.proofs.lemmas.Result.{err_from_is_err_and}
use Rattle.console.specs.Answers.{line}
use Rattle.console.proofs.Pages.{wrote_next, none_next}
use Rattle.console.proofs.print.write_bills.Goals as goal

pub returns-in_err-write_bill : goal.returns-in_err-write_bill
returns-in_err-write_bill c =
    let p = err_from_is_err_and c.from_residual.result c.from_residual.ensures.1 in
    rw p.1 (none_next line c.args.bills.now c.loop-bill.bill-index _ c.loop-bill-test.true c.loop-bill.invariant c.in_err-write_bill.ensures)

pub loop-bill-preserved : goal.loop-bill-preserved
loop-bill-preserved c = wrote_next line c.args.bills.now c.loop-bill.bill-index _ c.loop-bill-test.true c.loop-bill.invariant c.in_ok-write_bill.ensures
