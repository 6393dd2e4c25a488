use Rattle.std.proofs.Common.{take, Ok}
use Rattle.console.specs.Answers.{lines}
use Rattle.console.specs.Pages.{Wrote}
use Rattle.console.proofs.print.write_bills.Given as goal

abbrev pub invariant-loop-bill : goal.invariant-loop-bill
invariant-loop-bill l = Wrote (lines (take l.bill-index l.bills)) l.initial.page (Ok tt) l.page
