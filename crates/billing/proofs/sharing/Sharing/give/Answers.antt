use Rattle.std.proofs.Common.{◌≡◌, ◌+◌, ◌∷◌, get_or, drop, set, sym, ap, ◌∙◌, arith}
use Rattle.std.proofs.lemmas.List.{at_drop_more}
use Rattle.billing.specs.Sharing.{step, total, shares_from}
use Rattle.billing.proofs.Passes.{drop_next, write_more}
use Rattle.billing.proofs.sharing.Sharing.give.Goals as goal

pub loop-i-preserved : goal.loop-i-preserved
loop-i-preserved c =
    let s = c.loop-i.self in
    let t = c.next.new.self in
    let ws = c.args.weights.now in
    let i = c.loop-i.i in
    let w = get_or ws i 0 in
    let m = at_drop_more total ws i 0 c.loop-i-test.true in
    let bs = shares_from c.args.self.pool c.args.self.whole c.args.self.passed ws in
    let r : drop i bs ≡ step s.pool s.whole s.passed w ∷ shares_from s.pool s.whole (s.passed + w) (drop (i + 1) ws) =
    sym c.loop-i.invariant.1 ∙ at_drop_more (shares_from s.pool s.whole s.passed) ws i 0 c.loop-i-test.true in
    let f : shares_from t.pool t.whole t.passed (drop (i + 1) ws) ≡ shares_from s.pool s.whole (s.passed + w) (drop (i + 1) ws) = cc in (
      omega arith,
      f ∙ drop_next i bs _ _ r,
      ap (set c.loop-i.shares i) c.next.ensures.share
          ∙ (ap (λ l. set l i (step s.pool s.whole s.passed w)) c.loop-i.invariant.2 ∙ write_more i bs c.args.shares.now _ _ r (omega arith)),
    )
