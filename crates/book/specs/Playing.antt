-- A list of calls, played from no book on. Assumes nothing.
use Rattle.std.specs.Prelude.{List, [], ◌∷◌, ◌++◌, Result}
use Rattle.rules.specs.Answers.{Rulebook}
use Rattle.billing.specs.declared.bill.Bill.{Bill}
use Rattle.settlement.specs.Book.{State, no_book, Room}
use Rattle.book.specs.declared.answer.Reply.{Reply}
use Rattle.book.specs.declared.answer.Denial.{Denial}
use Rattle.book.specs.declared.call.Call.{Call}
use Rattle.book.specs.Laws.{Lawful}
use Rattle.book.specs.Runs.{Trace, Run}
use Rattle.book.specs.Serving.{Served}

-- The calls were served one after another, with the answers in the log; the trace is what they added.
pub data Plays (means : Rulebook) : List Call → List (Result Reply Denial) → Trace → State → Type 0 where
  none : Plays means [] [] [] no_book
  more : {calls : List Call} {log : List (Result Reply Denial)} {t : Trace} {s s' : State} {room : Room} {call : Call} {answer : Result Reply Denial} {sheet : List Bill}
      → Plays means calls log t s → (one : Served means room s call answer sheet s')
      → Plays means (calls ++ (call ∷ [])) (log ++ (answer ∷ [])) (one.added ++ t) s'

-- The log is a run of the calls, and a lawful one.
pub record Played (means : Rulebook) (calls : List Call) (log : List (Result Reply Denial)) (after : State) : Type 0 where
  pub trace : Trace
  pub plays : Plays means calls log trace after
  pub run : Run means trace after
  pub lawful : Lawful means trace after
