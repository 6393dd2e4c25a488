use Rattle.std.proofs.Common.{◌+◌, ◌-◌, ◌*◌, ◌^◌, ◌≤◌, get_or, take, ap, ◌∙◌, subst, arith}
use Rattle.std.proofs.lemmas.List.{take_more}
use Rattle.console.specs.Grammar.{read_on}
use Rattle.console.proofs.Places.{place_more, place_fits, place_all, digit_at, read_on_push}
use Rattle.console.proofs.reader.value.Goals as goal

pub overflow_mul-value : goal.overflow_mul-value
overflow_mul-value c = omega (arith, place_fits c.loop-digit.value (9 - c.loop-digit.digit-index) (omega arith) c.loop-digit.invariant.places)

pub overflow_sub-digit : goal.overflow_sub-digit
overflow_sub-digit c = (digit_at c.args.digits.now c.loop-digit.digit-index 0 c.requires.digits c.loop-digit-test.true).0

pub overflow_add-value : goal.overflow_add-value
overflow_add-value c =
    let digit = digit_at c.args.digits.now c.loop-digit.digit-index 0 c.requires.digits c.loop-digit-test.true in
    omega (arith, place_fits c.loop-digit.value (9 - c.loop-digit.digit-index) (omega arith) c.loop-digit.invariant.places, digit.0, digit.1, c.from.ensures)

pub loop-digit-preserved : goal.loop-digit-preserved
loop-digit-preserved c =
    let ds = c.args.digits.now in
    let i = c.loop-digit.digit-index in
    let v = c.loop-digit.value in
    let digit = digit_at ds i 0 c.requires.digits c.loop-digit-test.true in
    let push = ap (read_on 0) (take_more ds i 0 c.loop-digit-test.true) ∙ read_on_push 0 (take i ds) (get_or ds i 0) in
    record {
      read = omega (arith, push, c.from.ensures, c.loop-digit.invariant.read);
      places = subst (λ k. (v * 10 + c.from.result + 1) * 10 ^ k ≤ 10 ^ 9) (omega arith)
          (place_more v c.from.result (9 - i) (omega arith) (omega (arith, digit.1, c.from.ensures)) c.loop-digit.invariant.places);
    }

pub returns-clause-short : goal.returns-clause-short
returns-clause-short c = place_all c.loop-digit.value (9 - c.loop-digit.digit-index) c.loop-digit.invariant.places
