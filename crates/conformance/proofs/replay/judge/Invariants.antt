use Rattle.conformance.specs.Lines.{lines}
use Rattle.conformance.proofs.Replaying.{SoFar}
use Rattle.conformance.proofs.replay.judge.Given as goal

abbrev pub invariant-loop-line : goal.invariant-loop-line
invariant-loop-line l = SoFar l.initial.office l.commands l.expected l.office (lines l.line-iterator.0.now) l.left l.lines
