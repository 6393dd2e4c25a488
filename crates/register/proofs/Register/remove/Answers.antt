use Rattle.std.proofs.Common.{◌≡◌, ℕ, ◌+◌, ◌-◌, ◌<◌, ◌≤◌, min, ◌++◌, length, get_or, take, drop, sym, ap, ◌∙◌, subst, arith, rules}
use borrow.Rule.Slice.PartMut.{put_mid}
use Rattle.std.specs.List.{remove}
use Rattle.std.proofs.lemmas.List.{places, drop_all}
use Rattle.register.specs.Numbered.{Rising}
use Rattle.register.specs.Held.{count, held}
use Rattle.register.proofs.Lines.{held_removed, beyond_removed, laid_by, removed_past}
use Rattle.register.proofs.Rises.{rising_removed}
use Rattle.register.proofs.Register.remove.Goals as goal

pub returns-then-i-n : goal.returns-then-i-n
returns-then-i-n g c =
    let xs = c.args.self.now.lines.now in
    let n = c.count-n.result in
    let is : n ≡ min (min c.args.self.now.used g.row.LIMIT) (length xs) = c.count-n.ensures.count in
    let i = c.args.i in
    let ys = c.rotate_left.new.self in
    let zs = put_mid i (n - i) xs ys in
    let le : n ≤ length xs = omega arith in
    let long : length ys ≡ n - i = search (rules, places) in
    let whole : length zs ≡ length xs = search (rules, places) in
    let shifted : (j : ℕ) (d : g.row.R.Denot) → j + 1 < n - i → get_or ys j d ≡ get_or xs (i + (j + 1)) d
    = λ j d h. search (rules, places, c.rotate_left.ensures.by_index.0 j d) in
    let count : min (min (n - 1) g.row.LIMIT) (length zs) ≡ n - 1 = omega arith in
    let holds : take (min (min (n - 1) g.row.LIMIT) (length zs)) zs ≡ remove (held c.args.self.now) i =
    ap (λ k. take k zs) count ∙ (held_removed xs n i ys (omega arith) le long shifted ∙ ap (λ k. remove (take k xs) i) is) in
    let last : (d : g.row.R.Denot) → get_or ys (n - i - 1) d ≡ get_or xs i d = λ d. search (rules, places, c.rotate_left.ensures.by_index.1 (n - i - 1) d) in
    record {
      holds = holds;
      rises = λ rising. subst (Rising g.R.Keyed.number) (sym holds) (rising_removed g.R.Keyed.number i (held c.args.self.now) rising);
      past = ap (λ k. drop k zs) count ∙ (laid_by xs n i ys (omega arith) le long last ∙ ap (λ k. take 1 (drop i (take k xs)) ++ drop k xs) is);
      kept = record { lent = search rules; long = whole; beyond = λ m a b. beyond_removed xs n i ys m (omega arith) le long (omega arith) };
    }

pub returns-else-i-n : goal.returns-else-i-n
returns-else-i-n g c =
    let xs = c.args.self.now.lines.now in
    let n = c.count-n.result in
    let held-now = held c.args.self.now in
    let past : length held-now ≤ c.args.i = search (rules, places) in
    record {
      holds = sym (removed_past held-now c.args.i past);
      rises = λ rising. rising;
      past = sym (ap (λ l. take 1 l ++ drop (count c.args.self.now) xs) (drop_all c.args.i held-now past));
      kept = search rules;
    }
