use Rattle.std.proofs.Common.{sym, subst, arith, rules}
use Rattle.settlement.specs.Admitting.{WordsFor}
use Rattle.settlement.proofs.Postings.{slot_outside, written}
use Rattle.settlement.proofs.month.admitting.words_for.Goals as goal

pub returns-then-event-slots_in : goal.returns-then-event-slots_in
returns-then-event-slots_in c = slot_outside c.args.count c.args.event.now (search rules)

pub returns : goal.returns
returns c =
    subst (WordsFor c.args.count c.args.event.now) (sym c.words.ensures.words)
    (written c.args.count c.args.event.now c.requires (omega arith) (search rules))
