use Rattle.std.proofs.Common.{subst}
use Rattle.console.specs.Pages.{Wrote}
use Rattle.console.proofs.Pages.{wrote_more, settled_text}
use Rattle.console.proofs.print.write_settled.Goals as goal

pub returns : goal.returns
returns c =
    subst (λ t. Wrote t c.args.page.now c.write_bills.result c.write_bills.new.page)
    (settled_text c.args.tally.now c.args.sheet.now c.from.result c.min-rows.result c.from.ensures c.min-rows.ensures)
    (wrote_more _ _ c.in_ok-write_line.ensures c.write_bills.ensures)
