use Rattle.std.proofs.Common.{min, length, take, subst}
use Rattle.rules.specs.Layers.{or_else, capped}
use Rattle.rules.specs.Rulebooks.{table, rulebook_1}
use Rattle.rules.specs.Services.{answer}
use Rattle.book.specs.Playing.{Played}
use Rattle.book.specs.Serving.{state_of}
use Rattle.buyer_rules.specs.Month.{june_calls}
use Rattle.buyer_rules.specs.Voltage.{voltage_control}
use Rattle.buyer_rules.proofs.month.june.Goals as goal

-- the rulebook that was made has the cap that the definition has
pub returns : goal.returns
returns c =
    let n = min 6 (length c.args.log.now) in
    subst (λ cap. Played (λ f. or_else (table rulebook_1 f) (capped cap (answer voltage_control f))) (take n june_calls) (take n c.play.new.log) (state_of c.play.result c.play.new.memory))
    c.with_voltage.ensures c.play.ensures.played
