use Rattle.std.proofs.Common.{◌≡◌, [], Some, sym, ap, ◌∙◌, arith}
use Rattle.std.proofs.lemmas.List.{nil_from_length}
use Rattle.std.proofs.lemmas.Bool.{eqb-true, eqb-false}
use Rattle.console.specs.Format.{numeral}
use Rattle.console.proofs.Grammar.{numeral_reads, numeral_long, numeral_none}
use Rattle.console.proofs.reader.Reader.numeral.Goals.{then-is_empty-via-then-is_empty, then-is_empty-via-else-is_empty+then-digits-gt-MOST_DIGITS}
use Rattle.console.proofs.reader.Reader.numeral.Goals as goal

pub returns-then-is_empty-clause-reads : goal.returns-then-is_empty-clause-reads
returns-then-is_empty-clause-reads c =
    let cut = c.split_digits.ensures in
    let ds = c.split_digits.result.0.now in
    let rest = c.split_digits.result.1.now in
    ap (numeral 9 0) cut.whole ∙ elim c.then-is_empty.branch [
      | then-is_empty-via-then-is_empty w ↦
          (let none : ds ≡ [] = nil_from_length ds (eqb-true _ 0 (sym w.if-is_empty.ensures)) in rw none (numeral_none 0 rest cut.stops))
      | then-is_empty-via-else-is_empty+then-digits-gt-MOST_DIGITS w ↦ numeral_long 9 0 ds rest cut.digits (omega (arith, w.if-digits-gt-MOST_DIGITS.true))
    ]

pub returns-clause-reads : goal.returns-clause-reads
returns-clause-reads c =
    let cut = c.split_digits.ensures in
    let ds = c.split_digits.result.0.now in
    let rest = c.split_digits.result.1.now in
    ap (numeral 9 0) cut.whole
    ∙ numeral_reads 9 0 ds rest (omega arith) cut.digits (omega (arith, c.if-digits-gt-MOST_DIGITS.false)) (λ z _. eqb-false _ 0 (sym c.if-is_empty.ensures) z) cut.stops
    ∙ ap (λ n. Some (n, rest)) (sym c.value.ensures.value)
