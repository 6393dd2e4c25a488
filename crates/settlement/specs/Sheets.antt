-- Settling over a lent sheet. Assumes nothing.
use Rattle.std.specs.Prelude.{◌≡◌, List, length, take, drop, pos, ◌-ℤ◌, Ok, Err, Result}
use Rattle.rules.specs.declared.refusal.Refusal.{Refusal}
use Rattle.billing.specs.declared.bill.Bill.{Bill}
use Rattle.billing.specs.Bills.{net_sum}
use Rattle.settlement.specs.Checks.{Accepted, Refused}
use Rattle.settlement.specs.Settling.{settle_checks, Settles, settle, Reckoning}
use Rattle.settlement.specs.Lent.{book_of, room_of, Beyond}
use Rattle.settlement.specs.declared.memory.Memory.{Memory}
use Rattle.settlement.specs.declared.month.Month.{Month}
use Rattle.settlement.specs.declared.month.Open.{Open}
use Rattle.settlement.specs.declared.month.Published.{Published}
use Rattle.settlement.specs.declared.settlement.Tally.{Tally}
use Rattle.settlement.specs.declared.settlement.Settled.{Settled}
use Rattle.settlement.specs.declared.settlement.Kept.{Kept}

-- the bills that the sheet then holds, and the money left
abbrev pub reckoned : Tally → List Bill → Reckoning
reckoned t sheet = record { rows = take t.rows sheet; left = t.left }

-- The month is settled: its bills are the first rows of the sheet, and the rows beyond are as they were.
pub record WasSettled (month : Month Published) (m : Memory) (sheet : List Bill) (next : Month Open) (t : Tally) (m' : Memory) (sheet' : List Bill) : Type 0 where
  pub does : Accepted (settle_checks (room_of (length sheet) m) (book_of month m)) (Settles (book_of month m)) (settle (book_of month m)) (reckoned t sheet') (book_of next m')
  pub parties : t.rows ≡ length (book_of month m).lines
  -- the nets of the sheet add up to the fund after less the fund before
  pub closes : net_sum (take t.rows sheet') ≡ pos (book_of next m').fund -ℤ pos (book_of month m).fund
  pub rows_beyond : drop t.rows sheet' ≡ drop t.rows sheet
  pub rows_long : length sheet' ≡ length sheet
  pub beyond : Beyond next.used m m'
  -- the lines of the objections, none of which is in use any more, keep what they held
  pub objection_lines : m'.objections.lines ≡ m.objections.lines

-- It is refused, and everything is as before.
pub record WasKept (month : Month Published) (m : Memory) (sheet : List Bill) (kept : Month Published) (e : Refusal) (m' : Memory) (sheet' : List Bill) : Type 0 where
  pub does : Refused (settle_checks (room_of (length sheet) m) (book_of month m)) e (book_of month m) (book_of kept m')
  pub month_same : kept ≡ month
  pub memory_same : m' ≡ m
  pub sheet_same : sheet' ≡ sheet

abbrev pub Settling : Month Published → Memory → List Bill → Result Settled Kept → Memory → List Bill → Type 0
Settling month m sheet (Ok settled) m' sheet' = WasSettled month m sheet settled.month settled.tally m' sheet'
Settling month m sheet (Err kept) m' sheet' = WasKept month m sheet kept.month kept.refusal m' sheet'
