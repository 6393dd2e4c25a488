use Rattle.std.proofs.Common.{◌≡◌, ◌+◌, ◌<◌, min, [], ◌∷◌, ◌++◌, length, take, drop, sym, refl, ap, ◌∙◌, subst, length-drop, arith}
use Rattle.std.proofs.lemmas.List.{take_more_set, take-set, length-set, drop-set-lt, drop-drop}
use Rattle.book.specs.Serving.{state_of}
use Rattle.book.specs.Playing.{Plays, none, more}
use Rattle.book.specs.Runs.{start}
use Rattle.book.proofs.Plays.{all_played, next_of}
use Rattle.book.proofs.playing.play.Goals as goal

pub loop-entry-init : goal.loop-entry-init
loop-entry-init g c = record {
  played = record { trace = []; plays = none; run = start };
  long = refl;
  rest = refl;
  called = omega arith;
  waits = c.iter-waiting.ensures.rest;
}

pub loop-entry-preserved : goal.loop-entry-preserved
loop-entry-preserved g c =
    let i = c.loop-entry.entry-index in
    let log = c.loop-entry.log in
    let calls = c.args.calls.now in
    let answer = c.serve.result.1 in
    let means = g.P.Rule.meaning c.args.rulebook.now in
    let far = c.loop-entry.invariant.played in
    let did = c.serve.ensures.carries in
    let after = state_of c.serve.result.0 c.serve.new.memory in
    let next = next_of calls i c.in-Some.call.now _ (sym c.loop-entry.invariant.waits ∙ c.in-Some.ensures.steps) in
    let in-log : i < length log = omega arith in
    record {
      played = record {
        trace = did.served.added ++ far.trace;
        plays = subst (λ l. Plays means (take (i + 1) calls) l (did.served.added ++ far.trace) after) (sym (take_more_set log i answer in-log))
            (subst (λ k. Plays means k (take i log ++ (answer ∷ [])) (did.served.added ++ far.trace) after) (sym next.front) (more far.plays did.served));
        run = did.carried.run far.trace far.run;
      };
      long = length-set log i answer ∙ c.loop-entry.invariant.long;
      rest = drop-set-lt (i + 1) log i answer (omega arith) ∙ (sym (drop-drop 1 i log) ∙ (ap (drop 1) c.loop-entry.invariant.rest ∙ drop-drop 1 i c.args.log.now));
      called = omega (arith, next.within);
      waits = next.back;
    }

pub returns-after-loop-entry-clause-played : goal.returns-after-loop-entry-clause-played
returns-after-loop-entry-clause-played g c =
    all_played _ (g.met.P.Rule.bounded c.args.rulebook.now) c.args.calls.now c.loop-entry.log c.loop-entry.entry-index _ (omega (arith, c.loop-entry.invariant.called)) c.loop-entry.invariant.played

-- no call waits
pub returns-in_default-clause-played : goal.returns-in_default-clause-played
returns-in_default-clause-played g c =
    let i = c.loop-entry.entry-index in
    let none : length (drop i c.args.calls.now) ≡ 0 = sym (ap length c.loop-entry.invariant.waits) ∙ c.in_default.ensures.steps.0 in
    let end : i ≡ min (length c.args.calls.now) (length c.args.log.now) = omega (arith, length-drop i c.args.calls.now) in
    rw (← end) (rw take-set (all_played _ (g.met.P.Rule.bounded c.args.rulebook.now) c.args.calls.now c.loop-entry.log i i refl c.loop-entry.invariant.played))
