use Rattle.std.proofs.Common.{◌≡◌, ℕ, ◌+◌, ◌-◌, ◌<◌, ◌≤◌, min, length, get_or, take, set, sym, ap, ◌∙◌, subst, arith, rules}
use borrow.Rule.Slice.PartMut.{put_mid}
use Rattle.std.specs.List.{insert}
use Rattle.std.proofs.lemmas.List.{places, length-take}
use Rattle.std.proofs.lemmas.Bool.{lt-leb}
use Rattle.register.specs.Held.{held}
use Rattle.register.specs.Numbered.{place_at, Rising}
use Rattle.register.proofs.Rises.{rising_inserted}
use Rattle.register.proofs.Lines.{held_inserted, beyond_inserted}
use Rattle.register.proofs.Register.insert.Goals as goal

pub returns : goal.returns
returns g c =
    let xs = c.args.self.now.lines.now in
    let n = c.count-n.result in
    let is : n ≡ min (min c.args.self.now.used g.row.LIMIT) (length xs) = c.count-n.ensures.count in
    let i = c.place-i.result in
    let y = c.args.line in
    let ys = c.rotate_right.new.self in
    let zs = set (put_mid i (n + 1 - i) xs ys) i y in
    let spare : n < length xs = omega arith in
    let within : i ≤ n = omega (arith, c.place-i.ensures.within) in
    let long : length ys ≡ n + 1 - i = search (rules, places) in
    let whole : length zs ≡ length xs = search (rules, places) in
    let shifted : (j : ℕ) (d : g.row.R.Denot) → 1 ≤ j → j < n + 1 - i → get_or ys j d ≡ get_or xs (i + (j - 1)) d
    = λ j d l h. search (rules, places, c.rotate_right.ensures.by_index.1 j d) in
    let count : min (min (n + 1) g.row.LIMIT) (length zs) ≡ n + 1 = omega arith in
    let number = g.R.Keyed.number in
    let place : i ≡ place_at number (number y) (held c.args.self.now) = c.place-i.ensures.place ∙ ap (λ k. place_at number k (held c.args.self.now)) c.key.ensures in
    let holds : take (min (min (n + 1) g.row.LIMIT) (length zs)) zs ≡ insert (held c.args.self.now) i y = ap (λ k. take k zs) count ∙ (held_inserted xs n i ys y within spare long shifted ∙ ap (λ k. insert (take k xs) i y) is) in
    record {
      inserts = record {
        spare = simp length-take (lt-leb _ _ (omega arith));
        place = place;
        holds = holds;
      };
      rises = record { rises = λ rising none. subst (Rising number) (sym (holds ∙ ap (λ k. insert (held c.args.self.now) k y) place)) (rising_inserted number y 0 (held c.args.self.now) rising none) };
      kept = record { lent = search rules; long = whole; beyond = λ m a b. beyond_inserted xs n i ys y m within spare long (omega arith) };
    }
