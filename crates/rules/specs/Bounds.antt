-- No service passes the ceiling, and so no table of services does. Assumes nothing.
use Rattle.std.specs.Prelude.{ℕ, ◌&&◌, List, [], ◌∷◌, Ok, Err, ◌==◌, nat_le}
use Rattle.std.proofs.Common.{rules}
use Rattle.std.proofs.lemmas.Bool.{cond_both, leb-true}
use Rattle.rules.specs.declared.facts.Facts.{Facts}
use Rattle.rules.specs.declared.refusal.Refusal.TheVariants.{OverCeiling}
use Rattle.rules.specs.Answers.{Answer, Bounded}
use Rattle.rules.specs.Layers.{season, capped, grace, or_else}
use Rattle.rules.specs.Ranges.{in_range}
use Rattle.rules.specs.Rulebooks.{table}
use Rattle.rules.specs.Services.{Service, answer, named}

-- the law of rules, for every service at once
pub answer_bounded : (s : Service) (f : Facts) → Bounded (answer s f)
answer_bounded s f =
    cond_both (named s f) _ _ Bounded
    (λ _. cond_both (in_range f && s.fits f) _ _ Bounded
    (λ _. cond_both (nat_le (s.amount f) 1_000_000_000) (Ok (s.account f, s.amount f)) (Err OverCeiling) Bounded (λ e. leb-true _ _ e) (λ _. tt))
    (λ _. tt))
    (λ _. tt)

-- a layer over an answer below the ceiling stays below it
pub capped_bounded : (limit : ℕ) (a : Answer) → Bounded a → Bounded (capped limit a)
capped_bounded limit (Ok c) h = search rules
capped_bounded limit (Err e) h = tt

pub season_bounded : (f : Facts) (a : Answer) → Bounded a → Bounded (season f a)
season_bounded f (Ok c) h = search rules
season_bounded f (Err e) h = tt

pub grace_bounded : (before : ℕ) (f : Facts) (a : Answer) → Bounded a → Bounded (grace before f a)
grace_bounded before f (Ok c) h = search rules
grace_bounded before f (Err e) h = tt

pub or_else_bounded : (first second : Answer) → Bounded first → Bounded second → Bounded (or_else first second)
or_else_bounded (Ok c) second h k = h
or_else_bounded (Err e) second h k = search rules

-- and for every table of them
pub table_bounded : (lines : List (ℕ × Service)) (f : Facts) → Bounded (table lines f)
unfolding table
table_bounded [] f = tt
table_bounded (line ∷ lines) f =
    cond_both (f.service == line.0) _ _ Bounded (λ _. answer_bounded line.1 f) (λ _. table_bounded lines f)
