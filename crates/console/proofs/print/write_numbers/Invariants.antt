use Rattle.std.proofs.Common.{take, Ok}
use Rattle.console.specs.Answers.{sums}
use Rattle.console.specs.Pages.{Wrote}
use Rattle.console.proofs.print.write_numbers.Given as goal

abbrev pub invariant-loop-n : goal.invariant-loop-n
invariant-loop-n l = Wrote (sums (take l.n-index l.numbers)) l.initial.page (Ok tt) l.page
