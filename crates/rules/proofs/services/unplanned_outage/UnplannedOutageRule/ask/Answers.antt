use Rattle.std.proofs.Common.{◌≤◌, mul-le-mul, arith, rules}
use Rattle.rules.proofs.Quotients.{quotient_bound}
use Rattle.rules.proofs.services.unplanned_outage.UnplannedOutageRule.ask.Goals as goal

pub overflow_add-stopped : goal.overflow_add-stopped
overflow_add-stopped c =
    let s = c.in_ok-check.ensures.passes.sizes in
    let minutes : c.min-minutes.result ≤ 2_880 = omega arith in
    let time : c.quotient-for_time.result ≤ 384_000_000 = rw c.quotient-for_time.ensures (quotient_bound 30 (mul-le-mul s.capacity minutes)) in
    search rules
