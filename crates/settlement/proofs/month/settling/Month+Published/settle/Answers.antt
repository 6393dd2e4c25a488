use Rattle.std.proofs.Common.{refl}
use Rattle.settlement.proofs.Postings.{first_reason}
use Rattle.settlement.proofs.month.settling.Month+Published.settle.Goals as goal

pub returns-in-Err : goal.returns-in-Err
returns-in-Err c = record {
  does = record { reason = first_reason _ _ c.in-Err.ensures; same = refl };
  month_same = refl;
  memory_same = refl;
  sheet_same = refl;
}
