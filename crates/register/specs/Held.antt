-- What a register holds. Assumes nothing.
use Rattle.std.specs.Prelude.{◌≡◌, ℕ, ◌≤◌, min, Bool, true, false, List, ◌++◌, length, take, drop, None, Ok, Err, Result, nat_le}
use Rattle.std.specs.List.{insert}
use Rattle.register.specs.declared.Register.{Register}
use Rattle.register.specs.declared.Full.{Full}
use Rattle.register.specs.Numbered.{first_at, place_at, Rising}

module _ {R : Type 0} {limit : ℕ} where
  -- how many lines are in use: never more than the limit, or than there are
  abbrev pub count : Register R limit → ℕ
  count r = min (min r.used limit) (length r.lines.now)

  -- the lines in use
  abbrev pub held : Register R limit → List R
  held r = take (count r) r.lines.now

  -- how many lines it may use
  abbrev pub room : Register R limit → ℕ
  room r = min limit (length r.lines.now)

  -- no line is left
  abbrev pub full : Register R limit → Bool
  full r = nat_le (room r) (length (held r))

  -- The line stands in front of the first one with a larger number.
  pub record Entered (number : R → ℕ) (before after : Register R limit) (line : R) (i : ℕ) : Type 0 where
    pub spare : full before ≡ false
    pub place : i ≡ place_at number (number line) (held before)
    pub holds : held after ≡ insert (held before) i line

  -- No line was left, and all is as it was.
  pub record Refused (before after : Register R limit) : Type 0 where
    pub none : full before ≡ true
    pub same : after ≡ before

  abbrev pub Insertion : (R → ℕ) → Register R limit → Register R limit → R → Result ℕ Full → Type 0
  Insertion number before after line (Ok i) = Entered number before after line i
  Insertion number before after line (Err e) = Refused before after

  -- Lines in rising number stay so, if none had the new line's number.
  pub record Rises (number : R → ℕ) (before after : Register R limit) (line : R) : Type 0 where
    pub rises : Rising number (held before) → first_at number (number line) (held before) ≡ None → Rising number (held after)

  -- The same memory, and past the lines that are or were in use, as it was.
  pub record Kept (before after : Register R limit) : Type 0 where
    pub lent : after.lines.ghost_name ≡ before.lines.ghost_name
    pub long : length after.lines.now ≡ length before.lines.now
    pub beyond : (n : ℕ) → count before ≤ n → count after ≤ n → drop n after.lines.now ≡ drop n before.lines.now

  -- Lines in rising number stay so.
  abbrev pub StaysRising : (R → ℕ) → Register R limit → Register R limit → Type 0
  StaysRising number before after = Rising number (held before) → Rising number (held after)

  -- The line taken out, if there was one, lies right past the lines in use, and past it all is as it was.
  abbrev pub LaidBy : ℕ → Register R limit → Register R limit → Type 0
  LaidBy i before after = drop (count after) after.lines.now ≡ take 1 (drop i (held before)) ++ drop (count before) before.lines.now
