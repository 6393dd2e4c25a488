use Rattle.std.proofs.Common.{sym}
use Rattle.register.proofs.Lines.{first_read}
use Rattle.register.proofs.Register.lookup.Goals as goal

-- a line that is found can be read
pub returns-in_err-get-clause-first : goal.returns-in_err-get-clause-first
returns-in_err-get-clause-first g c = absurd (first_read g.R.Keyed.number c.args.number _ _ c.in_ok-i.ensures.first (sym c.in_err-get.ensures))
