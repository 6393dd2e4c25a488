use Rattle.std.proofs.Common.{sym, refl, ap, subst, rules}
use Rattle.settlement.specs.Book.{in_month, published}
use Rattle.settlement.specs.Lent.{book_of, room_of}
use Rattle.book.specs.declared.answer.Reply.TheVariants as reply
use Rattle.book.specs.Runs.{Enrol, Read, Post, PayIn, Publish, AccountSums, Step, enrol, read, post, pay_in, publish, account_sums}
use Rattle.book.specs.Entries.{allows}
use Rattle.book.proofs.Heard.{heard, told}
use Rattle.book.proofs.serving.in_open.Goals as goal

pub returns-in-Enrol-clause-served : goal.returns-in-Enrol-clause-served
returns-in-Enrol-clause-served g c rows sheet =
    heard _ _ _ c.args.call _ sheet _ (Enrol c.in-Enrol.number c.in-Enrol.kind c.in-Enrol.capacity c.enrol.result)
    (ap (allows (in_month (book_of c.args.month c.args.memory.now))) c.in-Enrol.is) (sym c.in-Enrol.is) (told (λ _. reply.Done) _ (λ a b p. search rules) c.enrol.result _ c.answered-answer.ensures) refl (enrol c.enrol.ensures.does)

pub returns-in-Read-clause-served : goal.returns-in-Read-clause-served
returns-in-Read-clause-served g c rows sheet =
    heard _ _ _ c.args.call _ sheet _ (Read c.in-Read.reading c.read.result)
    (ap (allows (in_month (book_of c.args.month c.args.memory.now))) c.in-Read.is) (sym c.in-Read.is) (told (λ _. reply.Done) _ (λ a b p. search rules) c.read.result _ c.answered-answer-in-Read.ensures) refl (read c.read.ensures.does)

pub returns-in-Post-clause-served : goal.returns-in-Post-clause-served
returns-in-Post-clause-served g c rows sheet =
    heard _ _ _ c.args.call _ sheet _ (Post c.in-Post.event c.post.result)
    (ap (allows (in_month (book_of c.args.month c.args.memory.now))) c.in-Post.is) (sym c.in-Post.is) (told reply.Posted _ (λ a b p. search rules) c.post.result _ c.answered-answer-in-Post.ensures) refl (post c.post.ensures.does)

pub returns-in-PayIn-clause-served : goal.returns-in-PayIn-clause-served
returns-in-PayIn-clause-served g c rows sheet =
    heard _ _ _ c.args.call _ sheet _ (PayIn c.in-PayIn.amount c.pay_in.result)
    (ap (allows (in_month (book_of c.args.month c.args.memory.now))) c.in-PayIn.is) (sym c.in-PayIn.is) (told reply.Placed _ (λ a b p. search rules) c.pay_in.result _ c.answered-answer-in-PayIn.ensures) refl (pay_in c.pay_in.ensures.does)

pub returns-in-AccountSums-clause-served : goal.returns-in-AccountSums-clause-served
returns-in-AccountSums-clause-served g c rows sheet =
    heard _ _ _ c.args.call _ sheet _ (AccountSums c.in-AccountSums.party c.account_sums.result)
    (ap (allows (in_month (book_of c.args.month c.args.memory.now))) c.in-AccountSums.is) (sym c.in-AccountSums.is) (told reply.Sums _ (λ a b p. search rules) c.account_sums.result _ c.answered-answer-in-AccountSums.ensures) refl (account_sums c.account_sums.ensures)

pub returns-in-Publish-clause-served : goal.returns-in-Publish-clause-served
returns-in-Publish-clause-served g c rows sheet =
    let now = c.args.memory.now in
    let before = in_month (book_of c.args.month now) in
    heard _ _ _ c.args.call _ sheet _ Publish (ap (allows before) c.in-Publish.is) (sym c.in-Publish.is) refl refl
    (subst (λ b. Step (g.P.Rule.meaning c.args.rulebook.now) (room_of rows now) before Publish (published b)) (sym (c.publish.ensures now)) publish)
