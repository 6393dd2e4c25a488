use Rattle.std.proofs.Common.{◌≡◌, ◌≤◌, length, take, drop}
use Rattle.std.specs.Slice.Iter.{iter_rest}
use Rattle.book.specs.Serving.{state_of}
use Rattle.book.proofs.Plays.{SoFar}
use Rattle.book.proofs.playing.play.Given as goal

-- the calls so far are played into the log, and the others wait
abbrev pub invariant-loop-entry : goal.invariant-loop-entry
invariant-loop-entry g l = record {
  played : SoFar (g.P.Rule.meaning l.rulebook) (take l.entry-index l.calls) (take l.entry-index l.log) (state_of l.stage l.memory);
  long : length l.log ≡ length l.initial.log;
  rest : drop l.entry-index l.log ≡ drop l.entry-index l.initial.log;
  called : l.entry-index ≤ length l.calls;
  waits : iter_rest l.waiting ≡ drop l.entry-index l.calls;
}
