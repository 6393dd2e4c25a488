-- A line at the desk: which command it is, what the book answers, and which run that makes. Assumes nothing.
use Rattle.std.specs.Prelude.{◌≡◌, ℕ, ◌≤◌, true, List, ◌++◌, length, is_some, Some, None, Err, Option, Result}
use Rattle.rules.specs.declared.refusal.Refusal.{Refusal}
use Rattle.rules.specs.declared.refusal.Refusal.TheVariants.{Unreadable}
use Rattle.billing.specs.declared.bill.Bill.{Bill}
use Rattle.settlement.specs.Book.{State}
use Rattle.settlement.specs.Lent.{room_of}
use Rattle.settlement.specs.declared.memory.Memory.{Memory}
use Rattle.book.specs.declared.answer.Reply.{Reply}
use Rattle.book.specs.declared.answer.Denial.{Denial}
use Rattle.book.specs.declared.answer.Denial.TheVariants.{Refused}
use Rattle.book.specs.declared.stage.Stage.{Stage}
use Rattle.book.specs.declared.stage.Stage.TheVariants.{NoBook, Open, Published}
use Rattle.book.specs.Runs.{Trace, Run}
use Rattle.book.specs.Laws.{Lawful}
use Rattle.book.specs.Serving.{state_of, Served, MemoryLeft, SheetLeft}
use Rattle.console.specs.declared.choice.Choice.{Choice}
use Rattle.console.specs.declared.command.Command.{Command}
use Rattle.console.specs.declared.command.Command.TheVariants as command
use Rattle.console.specs.declared.desk.Desk.{Desk}
use Rattle.console.specs.Choices.{means_of}
use Rattle.console.specs.Calls.{call_of}
use Rattle.console.specs.Grammar.{Exactly}
use Rattle.console.specs.Answers.{text, Printed}

-- the choice that a command brings
abbrev pub brought : Command → Choice → Choice
brought (command.New _ _ new) old = new
brought (command.Enrol _ _ _) old = old
brought (command.Read _) old = old
brought (command.Post _) old = old
brought (command.PayIn _) old = old
brought command.Publish old = old
brought (command.Object _) old = old
brought (command.Answer _ _) old = old
brought (command.WhatIf _) old = old
brought (command.AccountSums _) old = old
brought command.Settle old = old

-- only a new book brings a choice
abbrev pub choice_for : Stage → Command → Choice → Choice
choice_for NoBook c old = brought c old
choice_for (Open _) c old = old
choice_for (Published _) c old = old

-- the state of the desk's book
abbrev pub state_at : Desk → Memory → State
state_at d m = state_of d.stage m

-- The command was served. Whatever run under the desk's rulebook led here, the entries added make it a longer run, under the
-- rulebook that the desk now goes by, and a lawful one.
pub record Heard (d : Desk) (m : Memory) (s : List Bill) (c : Command) (answer : Result Reply Denial) (d' : Desk) (m' : Memory) (s' : List Bill) : Type 0 where
  pub choice : d'.choice ≡ choice_for d.stage c d.choice
  pub served : Served (means_of d'.choice) (room_of (length s) m) (state_at d m) (call_of c) answer s' (state_at d' m')
  pub run : (t : Trace) → Run (means_of d.choice) t (state_at d m) → Run (means_of d'.choice) (served.added ++ t) (state_at d' m')
  pub lawful : (t : Trace) → Run (means_of d.choice) t (state_at d m) → Lawful (means_of d'.choice) (served.added ++ t) (state_at d' m')
  pub memory : MemoryLeft answer (state_at d' m') m m'
  pub sheet : SheetLeft answer s s'

-- The line gives no command: it is refused as unreadable, and nothing changes.
pub record Unheard (d : Desk) (m : Memory) (s : List Bill) (answer : Result Reply Denial) (d' : Desk) (m' : Memory) (s' : List Bill) : Type 0 where
  pub refused : answer ≡ Err (Refused Unreadable)
  pub desk_same : d' ≡ d
  pub memory_same : m' ≡ m
  pub sheet_same : s' ≡ s

abbrev pub ByCommand : Desk → Memory → List Bill → Option Command → Result Reply Denial → Desk → Memory → List Bill → Type 0
ByCommand d m s None answer d' m' s' = Unheard d m s answer d' m' s'
ByCommand d m s (Some c) answer d' m' s' = Heard d m s c answer d' m' s'

-- A line is answered by the command that it is a text of.
pub record Hearing (d : Desk) (m : Memory) (s : List Bill) (line : List ℕ) (answer : Result Reply Denial) (d' : Desk) (m' : Memory) (s' : List Bill) : Type 0 where
  pub command : Option Command
  pub reads : Exactly command line
  pub does : ByCommand d m s command answer d' m' s'

-- The text of that answer stands at the front of the page, and the bytes beyond it stay; or it has no room there.
pub record Answering (d : Desk) (m : Memory) (s : List Bill) (line page : List ℕ) (d' : Desk) (long : Option ℕ) (m' : Memory) (s' : List Bill) (page' : List ℕ) : Type 0 where
  pub answer : Result Reply Denial
  pub heard : Hearing d m s line answer d' m' s'
  pub printed : Printed (text answer s') page long page'
  -- whatever run led here, a page of 8,192 bytes has room for the answer
  pub room : (t : Trace) → Run (means_of d.choice) t (state_at d m) → 8192 ≤ length page → is_some long ≡ true
