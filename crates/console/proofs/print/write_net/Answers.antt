use Rattle.std.proofs.Common.{to_z-of_z, w64, SFits}
use Rattle.console.proofs.Pages.{wrote_more}
use Rattle.console.proofs.print.write_net.Goals as goal

pub returns : goal.returns
returns c =
    let fit : SFits w64 c.args.n = c.ranges.n in
    wrote_more _ _ c.in_ok-byte.ensures.wrote (simp to_z-of_z at c.signed.ensures.wrote)
