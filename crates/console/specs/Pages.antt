-- What is written to a page. Assumes nothing.
use Rattle.std.specs.Prelude.{◌≡◌, ℕ, ◌+◌, ◌<◌, ◌≤◌, true, false, List, ◌++◌, length, take, drop, Result}
use Rattle.std.specs.Result.{MatchResult}
use Rattle.console.specs.declared.page.Page.{Page}
use Rattle.console.specs.declared.page.NoRoom.{NoRoom}

abbrev pub bytes : Page → List ℕ
bytes p = p.bytes.now

-- what is used of a page lies within it
abbrev pub Sound : Page → Type 0
Sound p = p.used ≤ length (bytes p)

-- the page p has room for s, and q is p with s after what was used of it, and nothing else changed
pub record Put (s : List ℕ) (p q : Page) : Type 0 where
  pub room : Sound p → p.used + length s ≤ length (bytes p)
  pub text : Sound p → bytes q ≡ take p.used (bytes p) ++ (s ++ drop (p.used + length s) (bytes p))
  pub end : q.used ≡ p.used + length s
  pub full : q.full ≡ p.full

-- the page has no room for s
abbrev pub NoRoomFor : List ℕ → Page → Type 0
NoRoomFor s p = length (bytes p) < p.used + length s

-- the page p is full, or has no room for s, and q is full
pub record LeftFull (s : List ℕ) (p q : Page) : Type 0 where
  pub reason : p.full ≡ false → NoRoomFor s p
  pub full : q.full ≡ true

-- s is written, or refused
pub record Wrote (s : List ℕ) (p : Page) (r : Result (Unit {0}) NoRoom) (q : Page) : Type 0 where
  pub outcome : MatchResult r (λ _. Put s p q) (λ _. LeftFull s p q)
  pub sound : Sound p → Sound q
  pub long : length (bytes q) ≡ length (bytes p)
  pub lent : q.bytes.ghost_name ≡ p.bytes.ghost_name
