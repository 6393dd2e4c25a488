use Rattle.std.proofs.Common.{◌+◌, ◌∷◌, take, sym, ap, ◌∙◌, arith}
use Rattle.std.proofs.lemmas.List.{take_rest}
use Rattle.std.proofs.lemmas.List.Quantifiers.{position-Some}
use Rattle.std.proofs.lemmas.Bool.{eqb-false}
use Rattle.conformance.specs.Lines.{lines}
use Rattle.conformance.proofs.Cutting.{ends, first_cut, one_line, none_ends}
use Rattle.conformance.proofs.lines.first_line.Goals as goal

pub returns-in-Some : goal.returns-in-Some
returns-in-Some c =
    let text = c.args.text.now in
    let i = c.in-Some.end in
    let at = position-Some ends text i 0 (sym c.in-Some.ensures) in
    first_cut text i at.0 at.1 at.2 ∙ ap (λ xs. take i text ∷ lines xs) (sym (take_rest text (i + 1)))

pub returns-in-None-2 : goal.returns-in-None-2
returns-in-None-2 c =
    let text = c.args.text.now in
    let other = eqb-false _ 0 (sym c.if-is_empty.ensures) in
    one_line text (omega (arith, other)) (none_ends text c.in-None.ensures)
