use Rattle.std.proofs.Common.{length, ap, subst, arith}
use Rattle.console.specs.Offices.{Answers}
use Rattle.conformance.specs.Replays.{After}
use Rattle.conformance.proofs.Replaying.{one_more, no_room, all, few_lines}
use Rattle.conformance.proofs.replay.judge.Goals as goal

pub returns-in_err-long : goal.returns-in_err-long
returns-in_err-long c =
    let answering = subst (λ long. Answers c.loop-line.office c.in-Some.line.now long c.answer.new.self) c.in_err-long.was c.answer.ensures.answers in
    rw c.from_residual.ensures
    (no_room _ _ _ _ c.answer.new.self c.in-Some.line.now _ _ c.loop-line.left c.loop-line.lines c.in-Some.ensures.steps c.loop-line.invariant answering)

pub overflow_add-lines : goal.overflow_add-lines
overflow_add-lines c =
    let few = few_lines c.args.commands.now in
    let cut = ap length c.in-Some.ensures.steps in
    omega (arith, few, cut, c.loop-line.invariant.count)

pub loop-line-preserved : goal.loop-line-preserved
loop-line-preserved c =
    let answering = subst (λ long. Answers c.loop-line.office c.in-Some.line.now long c.answer.new.self) c.in_ok-long.was c.answer.ensures.answers in
    one_more _ _ _ _ c.answer.new.self c.in-Some.line.now _ _ c.loop-line.left c.loop-line.lines c.in-Some.ensures.steps c.loop-line.invariant
    c.after-left.result c.in_ok-long.long answering
    (subst (λ t. After c.loop-line.left t c.after-left.result) c.text.ensures c.after-left.ensures)

pub returns : goal.returns
returns c = all _ _ _ _ _ c.loop-line.left c.loop-line.lines c.is_spent.result c.in-None.ensures.steps.0 c.is_spent.ensures c.loop-line.invariant
