use Rattle.std.proofs.Common.{length}
use Rattle.book.proofs.Lawful.{carries}
use Rattle.book.proofs.serving.serve.Goals as goal

pub returns-in-NoBook-clause-carries : goal.returns-in-NoBook-clause-carries
returns-in-NoBook-clause-carries g c =
    let sheet = c.args.sheet.now in
    rw c.in-NoBook.is (carries _ (g.met.P.Rule.bounded c.args.rulebook.now) (c.in_no_book.ensures.served _ (length sheet) sheet))

pub returns-in-Open-clause-carries : goal.returns-in-Open-clause-carries
returns-in-Open-clause-carries g c =
    let sheet = c.args.sheet.now in
    rw c.in-Open.is (carries _ (g.met.P.Rule.bounded c.args.rulebook.now) (c.in_open.ensures.served (length sheet) sheet))

pub returns-in-Published-clause-carries : goal.returns-in-Published-clause-carries
returns-in-Published-clause-carries g c =
    rw c.in-Published.is (carries _ (g.met.P.Rule.bounded c.args.rulebook.now) c.in_published.ensures.served)
