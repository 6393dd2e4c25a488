-- A run under the desk's rulebook is one under the rulebook that it goes by next. Assumes nothing.
use Rattle.std.proofs.Common.{◌≡◌, ℕ, ◌≤◌, true, List, length, is_some, Some, None, Option, Result, sym, subst}
use Rattle.billing.specs.declared.bill.Bill.{Bill}
use Rattle.settlement.specs.Lent.{room_of}
use Rattle.book.specs.declared.answer.Reply.{Reply}
use Rattle.book.specs.declared.answer.Denial.{Denial}
use Rattle.settlement.specs.declared.memory.Memory.{Memory}
use Rattle.book.specs.declared.stage.Stage.{Stage}
use Rattle.book.specs.declared.stage.Stage.TheVariants.{NoBook, Open, Published}
use Rattle.book.specs.Runs.{Trace, Run}
use Rattle.book.specs.Serving.{state_of}
use Rattle.book.proofs.Lawful.{any_rulebook}
use Rattle.console.specs.declared.choice.Choice.{Choice}
use Rattle.console.specs.declared.command.Command.{Command}
use Rattle.console.specs.declared.desk.Desk.{Desk}
use Rattle.console.specs.Answers.{text, Printed}
use Rattle.console.specs.Choices.{means_of, means_within}
use Rattle.console.specs.Calls.{call_of}
use Rattle.console.specs.Desks.{choice_for, state_at, ByCommand, Hearing}
use Rattle.console.proofs.Reached.{served_fits}
use Rattle.console.proofs.Sizes.{AnswerFits, text_fits, has_room}

pub goes_on : (stage : Stage) (command : Command) (old new : Choice) (m : Memory) (t : Trace) → new ≡ choice_for stage command old →
    Run (means_of old) t (state_of stage m) → Run (means_of new) t (state_of stage m)
goes_on NoBook command old new m t e run = any_rulebook (means_of new) run
goes_on (Open month) command old new m t e run = subst (λ c. Run (means_of c) t (state_of (Open month) m)) (sym e) run
goes_on (Published month) command old new m t e run = subst (λ c. Run (means_of c) t (state_of (Published month) m)) (sym e) run

-- an answer at the desk keeps the limits of the book
by_command : (d : Desk) (m : Memory) (s : List Bill) (c : Option Command) (answer : Result Reply Denial) (d' : Desk) (m' : Memory) (s' : List Bill) →
    ByCommand d m s c answer d' m' s' → (t : Trace) → Run (means_of d.choice) t (state_at d m) → AnswerFits answer s'
by_command d m s None answer d' m' s' h t run = subst (λ a. AnswerFits a s') (sym h.refused) tt
by_command d m s (Some c) answer d' m' s' h t run =
    served_fits (means_of d'.choice) (means_within d'.choice) t (state_at d m) (goes_on d.stage c d.choice d'.choice m t h.choice run)
    (room_of (length s) m) (call_of c) answer s' (state_at d' m') h.served

pub page_suffices : (d : Desk) (m : Memory) (s : List Bill) (line : List ℕ) (answer : Result Reply Denial) (d' : Desk) (m' : Memory) (s' : List Bill) → Hearing d m s line answer d' m' s' →
    (page page' : List ℕ) (long : Option ℕ) → Printed (text answer s') page long page' → (t : Trace) → Run (means_of d.choice) t (state_at d m) → 8192 ≤ length page → is_some long ≡ true
page_suffices d m s line answer d' m' s' h page page' long printed t run enough =
    has_room (text answer s') page page' long printed (text_fits answer s' (by_command d m s h.command answer d' m' s' h.does t run)) enough
