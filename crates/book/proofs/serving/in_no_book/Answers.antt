use Rattle.std.proofs.Common.{Ok, Err, sym, refl, ap, subst}
use Rattle.settlement.specs.Book.{no_book, in_month}
use Rattle.settlement.specs.Lent.{room_of}
use Rattle.book.specs.Runs.{New, Step, new, not_new}
use Rattle.book.specs.Entries.{allows}
use Rattle.book.proofs.Heard.{heard}
use Rattle.book.proofs.serving.in_no_book.Goals as goal

pub returns-in-Ok-clause-served : goal.returns-in-Ok-clause-served
returns-in-Ok-clause-served c means rows sheet =
    let begun = c.in-Ok.ensures in
    heard means _ _ c.args.call _ sheet _ (New c.in-New.year c.in-New.month (Ok tt))
    (ap (allows no_book) c.in-New.is) (sym c.in-New.is) refl refl
    (subst (λ b. Step means (room_of rows c.args.memory.now) no_book (New c.in-New.year c.in-New.month (Ok tt)) (in_month b)) (sym begun.book) (new begun.free))

pub returns-in-Err-clause-served : goal.returns-in-Err-clause-served
returns-in-Err-clause-served c means rows sheet =
    heard means _ _ c.args.call _ sheet _ (New c.in-New.year c.in-New.month (Err c.in-Err.refusal))
    (ap (allows no_book) c.in-New.is) (sym c.in-New.is) refl refl (not_new c.in-Err.ensures.reason)
