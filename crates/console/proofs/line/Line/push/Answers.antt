use Rattle.std.proofs.Common.{◌∷◌, [], ◌≡◌, ◌++◌, length, sym, ◌∙◌, arith}
use Rattle.std.proofs.lemmas.List.{take_all, take-append-le, length_push}
use Rattle.std.proofs.lemmas.Bool.{eqb-true, eqb-false}
use Rattle.console.proofs.line.Line.push.Goals as goal

pub returns-then-not-is_full : goal.returns-then-not-is_full
returns-then-not-is_full c =
    let room = eqb-false _ 65 (sym c.if-not-is_full.ensures.value) in
    rw (c.push.ensures.items, ← c.self.view_is)
    (sym (take_all 65 (c.self.inside.bytes.items ++ (c.args.byte ∷ [])) (omega (arith, length_push c.self.inside.bytes.items c.args.byte, c.is_full.ensures.fits, room))))

pub returns-else-not-is_full : goal.returns-else-not-is_full
returns-else-not-is_full c =
    let xs = c.self.inside.bytes.items in
    let full : length xs ≡ 65 = eqb-true _ 65 (sym c.if-not-is_full.ensures.value) in
    rw (← c.self.view_is)
    (sym (take-append-le 65 xs (c.args.byte ∷ []) (omega arith) ∙ take_all 65 xs (omega arith)))
