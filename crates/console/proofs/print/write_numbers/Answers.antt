use Rattle.std.proofs.lemmas.Result.{err_from_is_err_and}
use Rattle.console.specs.Answers.{field}
use Rattle.console.proofs.Pages.{wrote_more, wrote_refused, wrote_next, none_next}
use Rattle.console.proofs.print.write_numbers.Goals as goal

pub returns-in_err-byte : goal.returns-in_err-byte
returns-in_err-byte c =
    let p = err_from_is_err_and c.from_residual.result c.from_residual.ensures.1 in
    rw p.1 (none_next field c.args.numbers.now c.loop-n.n-index 0 c.loop-n-test.true c.loop-n.invariant (wrote_refused _ _ c.in_err-byte.ensures.wrote))

pub returns-in_err-unsigned : goal.returns-in_err-unsigned
returns-in_err-unsigned c =
    let p = err_from_is_err_and c.from_residual-in_err-unsigned.result c.from_residual-in_err-unsigned.ensures.1 in
    rw p.1 (none_next field c.args.numbers.now c.loop-n.n-index 0 c.loop-n-test.true c.loop-n.invariant (wrote_more _ _ c.in_ok-byte.ensures.wrote c.in_err-unsigned.ensures.wrote))

pub loop-n-preserved : goal.loop-n-preserved
loop-n-preserved c =
    wrote_next field c.args.numbers.now c.loop-n.n-index 0 c.loop-n-test.true c.loop-n.invariant (wrote_more _ _ c.in_ok-byte.ensures.wrote c.in_ok-unsigned.ensures.wrote)
