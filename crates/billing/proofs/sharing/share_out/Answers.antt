use Rattle.std.proofs.Common.{◌≡◌, false, sym, subst, rules}
use Rattle.billing.specs.Bills.{unshared}
use Rattle.billing.specs.Sharing.{shares, Fair}
use Rattle.billing.proofs.Shares.{fair}
use Rattle.billing.proofs.sharing.share_out.Goals as goal

pub returns-clause-fair : goal.returns-clause-fair
returns-clause-fair c =
    let pool = c.args.pool in
    let ws = c.args.weights.now in
    let weighed : unshared pool ws ≡ false = search rules in
    let given : c.give.new.shares ≡ shares pool ws = search rules in
    subst (Fair pool ws) (sym given) (fair pool ws weighed)
