use Rattle.std.proofs.Common.{◌∙◌}
use Rattle.std.proofs.lemmas.List.Folds.{length-prefix_len}
use Rattle.std.specs.Char.{is_ascii_digit}
use Rattle.console.proofs.Places.{front_digits, digits_stop}
use Rattle.console.proofs.reader.split_digits.Goals as goal

pub returns-clause-digits : goal.returns-clause-digits
returns-clause-digits c =
    let long = c.leading_digits.ensures ∙ length-prefix_len is_ascii_digit c.args.text.now in
    rw (c.split_at.ensures.front, long) (front_digits c.args.text.now)

pub returns-clause-stops : goal.returns-clause-stops
returns-clause-stops c =
    let long = c.leading_digits.ensures ∙ length-prefix_len is_ascii_digit c.args.text.now in
    rw (c.split_at.ensures.back, long) (digits_stop c.args.text.now)
