use Rattle.std.proofs.Common.{◌≡◌, ◌+◌, map, set, sym, refl, ap, ◌∙◌, subst, arith}
use Rattle.std.proofs.lemmas.List.{take_all}
use Rattle.register.specs.Held.{held, count, Kept}
use Rattle.settlement.specs.Settling.{renewed}
use Rattle.billing.specs.Lent.{lines_of, lined, line_of}
use Rattle.settlement.proofs.Renewals.{SoFar, one_more, none_more, nth_lined, count_long, same_count, kept_twice}
use Rattle.register.specs.declared.Register.{Register}
use Rattle.billing.specs.declared.party.Party.{Party}
use Rattle.settlement.proofs.month.renewing.renew.Goals as goal
use Rattle.settlement.proofs.month.renewing.renew.Goals.{in-Some, in_default}

pub loop-i-init : goal.loop-i-init
loop-i-init c = (record { alike = refl; front = refl }, record { lent = refl; long = refl; beyond = λ n p q. refl }, refl)

pub loop-i-preserved : goal.loop-i-preserved
loop-i-preserved c =
    let first = c.args.roster.now in
    let current = c.loop-i.roster in
    let next = c.match-get.roster in
    let i = c.loop-i.i in
    elim c.match-get.branch [
      | in-Some w ↦
          let at = ap lined w.in-Some.ensures ∙ nth_lined (held current) i in
          let step : lines_of next ≡ set (lines_of current) i (line_of w.renewed.result) = ap lines_of w.roster-is ∙ w.put.ensures.lines in
          let kept : Kept current next = subst (λ r. Kept current r) (sym w.roster-is) w.put.ensures.kept in (
            one_more (lines_of first) (lines_of current) (lines_of next) i _ _ at w.renewed.ensures step c.loop-i.invariant.0,
            kept_twice first current next c.loop-i.invariant.2 c.loop-i.invariant.1 kept,
            same_count current next i _ step ∙ c.loop-i.invariant.2,
          )
      | in_default w ↦
          let at = ap lined w.in_default.ensures ∙ nth_lined (held current) i in
          subst (λ (r : Register Party 64). SoFar (lines_of first) (lines_of r) (i + 1) × Kept first r × (count r ≡ count first)) (sym w.roster-is)
          (none_more (lines_of first) (lines_of current) i at c.loop-i.invariant.0, c.loop-i.invariant.1, c.loop-i.invariant.2)
    ]

pub returns : goal.returns
returns c =
    let current = c.loop-i.roster in
    let all = take_all c.loop-i.i (lines_of current) (omega (arith, count_long current, c.loop-i.invariant.2, c.count-i-end.ensures.count)) in
    record {
      lines = sym all ∙ (c.loop-i.invariant.0.front ∙ (ap (map renewed) all ∙ c.loop-i.invariant.0.alike));
      kept = c.loop-i.invariant.1;
    }
