use Rattle.std.proofs.Common.{◌≡◌, ◌<◌, ◌≤◌, min, length, take, set, sym, subst, arith, rules}
use Rattle.std.proofs.lemmas.List.{length-set, length-take, set_past, drop-set-lt, places}
use Rattle.register.specs.Numbered.{Rising}
use Rattle.register.specs.Held.{held}
use Rattle.register.proofs.Lines.{held_set}
use Rattle.register.proofs.Rises.{rising_set}
use Rattle.register.proofs.Register.replace.Goals as goal

pub returns-then-i-count : goal.returns-then-i-count
returns-then-i-count g c =
    let xs = c.args.self.now.lines.now in
    let i = c.args.i in
    let y = c.args.line in
    let n = c.count.result in
    let l : i < n = omega arith in
    let le : n ≤ length xs = omega (arith, c.count.ensures.count) in
    let holds : take (min (min c.args.self.now.used g.row.LIMIT) (length (set xs i y))) (set xs i y) ≡ set (held c.args.self.now) i y =
    simp length-set (held_set xs (min (min c.args.self.now.used g.row.LIMIT) (length xs)) i y (omega (arith, c.count.ensures.count)) (omega arith)) in
    record {
      holds = holds;
      rises = λ same rising. subst (Rising g.R.Keyed.number) (sym holds) (rising_set g.R.Keyed.number y i (held c.args.self.now) same rising);
      kept = record { lent = search rules; long = search (rules, places); beyond = λ m a b. drop-set-lt m xs i y (omega (arith, c.count.ensures.count)) };
    }

pub returns-else-i-count : goal.returns-else-i-count
returns-else-i-count g c = search (rules, set_past, length-take)
