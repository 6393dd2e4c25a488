use Rattle.std.proofs.Common.{◌≡◌, length, take, Ok, Err, sym, refl, ap, rules}
use Rattle.settlement.specs.Book.{published}
use Rattle.settlement.specs.Lent.{book_of, room_of}
use Rattle.settlement.specs.Sheets.{reckoned}
use Rattle.book.specs.declared.answer.Reply.TheVariants as reply
use Rattle.book.specs.Runs.{Object, Answer, WhatIf, AccountSums, Settle, object, answer, what_if, account_sums_then, settle}
use Rattle.book.specs.Entries.{allows}
use Rattle.book.proofs.Heard.{heard, told, rows_taken}
use Rattle.book.proofs.serving.in_published.Goals as goal

pub returns-in-Object-clause-served : goal.returns-in-Object-clause-served
returns-in-Object-clause-served g c =
    heard _ _ _ c.args.call _ c.args.sheet.now _ (Object c.in-Object.place c.object.result)
    (ap (allows (published (book_of c.args.month c.args.memory.now))) c.in-Object.is) (sym c.in-Object.is) (told (λ _. reply.Done) _ (λ a b p. search rules) c.object.result _ c.answered-answer.ensures) refl (object c.object.ensures.does)

pub returns-in-Answer-clause-served : goal.returns-in-Answer-clause-served
returns-in-Answer-clause-served g c =
    heard _ _ _ c.args.call _ c.args.sheet.now _ (Answer c.in-Answer.place c.in-Answer.upheld c.answer.result)
    (ap (allows (published (book_of c.args.month c.args.memory.now))) c.in-Answer.is) (sym c.in-Answer.is) (told (λ _. reply.Done) _ (λ a b p. search rules) c.answer.result _ c.answered-answer-in-Answer.ensures) refl (answer c.answer.ensures.does)

pub returns-in-WhatIf-clause-served : goal.returns-in-WhatIf-clause-served
returns-in-WhatIf-clause-served g c =
    heard _ _ _ c.args.call _ c.args.sheet.now _ (WhatIf c.in-WhatIf.place c.what_if.result)
    (ap (allows (published (book_of c.args.month c.args.memory.now))) c.in-WhatIf.is) (sym c.in-WhatIf.is) (told reply.Sums _ (λ a b p. search rules) c.what_if.result _ c.answered-answer-in-WhatIf.ensures) refl (what_if c.what_if.ensures.does)

pub returns-in-AccountSums-clause-served : goal.returns-in-AccountSums-clause-served
returns-in-AccountSums-clause-served g c =
    heard _ _ _ c.args.call _ c.args.sheet.now _ (AccountSums c.in-AccountSums.party c.account_sums.result)
    (ap (allows (published (book_of c.args.month c.args.memory.now))) c.in-AccountSums.is) (sym c.in-AccountSums.is) (told reply.Sums _ (λ a b p. search rules) c.account_sums.result _ c.answered-answer-in-AccountSums.ensures) refl (account_sums_then c.account_sums.ensures)

pub returns-in-Ok-clause-served : goal.returns-in-Ok-clause-served
returns-in-Ok-clause-served g c =
    let did = c.in-Ok.ensures in
    let tally = c.in-Ok.settled.tally in
    let sheet = c.settle.new.sheet in
    let long : length (take tally.rows sheet) ≡ tally.rows =
    rows_taken tally.rows (room_of (length c.args.sheet.now) c.args.memory.now) (book_of c.args.month c.args.memory.now) sheet did.does.free did.parties did.rows_long in
    heard _ _ _ c.args.call _ sheet _ (Settle (Ok (reckoned tally sheet)))
    (ap (allows (published (book_of c.args.month c.args.memory.now))) c.in-Settle.is) (sym c.in-Settle.is)
    (ap (λ n. Ok (reply.Settled (record { rows = n; left = tally.left }))) long) (ap (λ n. take n sheet) (sym long)) (settle did.does)

pub returns-in-Err-clause-served : goal.returns-in-Err-clause-served
returns-in-Err-clause-served g c =
    heard _ _ _ c.args.call _ _ _ (Settle (Err c.in-Err.kept.refusal))
    (ap (allows (published (book_of c.args.month c.args.memory.now))) c.in-Settle.is) (sym c.in-Settle.is) refl refl (settle c.in-Err.ensures.does)
