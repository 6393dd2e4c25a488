use Rattle.std.proofs.Common.{◌≡◌, ◌/◌, true, not, get_or-take, Some, sym, ap, ◌∙◌, subst}
use Rattle.rules.specs.declared.refusal.Refusal.TheVariants.{OutOfStep}
use Rattle.records.specs.Words.{content}
use Rattle.records.specs.Journal.{event_at}
use Rattle.billing.specs.Lines.{number}
use Rattle.billing.specs.Lent.{line_of, lines_of}
use Rattle.settlement.specs.Registers.{has, found}
use Rattle.settlement.specs.Finding.{LineFound}
use Rattle.settlement.specs.Lent.{book_of, room_of}
use Rattle.settlement.specs.Asking.{standing_checks}
use Rattle.settlement.proofs.Postings.{last_clear}
use Rattle.settlement.proofs.month.standing.Month+Published.party_at.Goals as goal

pub returns : goal.returns
returns c =
    let b = book_of c.args.self.now c.args.memory.now in
    let named : c.content-number.result / 524_288 ≡ (event_at c.args.place b.words).party =
    ap (λ w. w / 524_288) (c.content-number.ensures ∙ ap content (sym (get_or-take c.args.self.now.used c.args.memory.now.words.now c.args.place 0 c.in_ok-standing.ensures.inside))) in
    let at = subst (LineFound (c.content-number.result / 524_288) (lines_of c.args.memory.now.roster)) c.in_ok-line.ensures.ok_part c.line_of.ensures in
    record {
      free = last_clear (standing_checks (room_of 0 c.args.memory.now) c.args.place b) OutOfStep _ c.in_ok-standing.ensures.free
          (ap not (subst (λ n. has number n b.lines ≡ true) named at.there));
      line = line_of c.in_ok-line.line;
      there = subst (λ n. found number n b.lines ≡ Some (line_of c.in_ok-line.line)) named at.first;
      enrolled = sym c.enrolled.ensures;
    }
