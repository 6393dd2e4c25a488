use Rattle.std.proofs.Common.{subst, to_z-of_z, w64, SFits, rules}
use Rattle.console.specs.Pages.{Wrote}
use Rattle.console.proofs.Pages.{wrote_more, bill_line}
use Rattle.console.proofs.print.write_bill.Goals as goal

pub returns : goal.returns
returns c =
    let fit : SFits w64 c.args.bill.now.net = search rules in
    subst (λ t. Wrote t c.args.page.now c.byte.result c.byte.new.self) (bill_line c.args.bill.now c.from.result c.from.ensures)
    (wrote_more _ _ c.in_ok-unsigned.ensures.wrote (wrote_more _ _ c.in_ok-write_numbers.ensures
    (wrote_more _ _ (simp to_z-of_z at c.in_ok-write_net.ensures) c.byte.ensures.wrote)))
