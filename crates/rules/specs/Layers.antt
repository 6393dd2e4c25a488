-- What a layer makes of the answer of the rule below it. Assumes nothing.
use Rattle.std.specs.Prelude.{ℕ, ◌*◌, min, Bool, true, false, cond, ◌&&◌, Ok, Err, ◌==◌, nat_lt}
use Rattle.rules.specs.declared.account.Account.{Account}
use Rattle.rules.specs.declared.account.Account.TheVariants.{Charges, First, Second, Third}
use Rattle.rules.specs.declared.facts.Facts.{Facts}
use Rattle.rules.specs.Answers.{Answer}
use Rattle.rules.specs.Ranges.{peak}
use Rattle.rules.specs.Refusals.{number_of}
use Rattle.rules.specs.Services.{up_to_ceiling}

-- the account of charges
abbrev pub charges : Account → Bool
charges Charges = true
charges First = false
charges Second = false
charges Third = false

-- season: a charge is five times as much in January, July, August and December; refusal 6 over the ceiling
abbrev pub season : Facts → Answer → Answer
season f (Ok c) = cond (charges c.0 && peak f) (up_to_ceiling c.0 (c.1 * 5)) (Ok c)
season f (Err e) = Err e

-- cap: an amount above the limit becomes the limit
abbrev pub capped : (limit : ℕ) → Answer → Answer
capped limit (Ok c) = Ok (c.0, min c.1 limit)
capped limit (Err e) = Err e

-- grace: a charge is 0 before a month
abbrev pub grace : (before : ℕ) → Facts → Answer → Answer
grace before f (Ok c) = cond (charges c.0 && nat_lt f.month_count before) (Ok (c.0, 0)) (Ok c)
grace before f (Err e) = Err e

-- chapters: the second answers only where the first gives refusal 5
abbrev pub or_else : (first second : Answer) → Answer
or_else (Ok c) second = Ok c
or_else (Err e) second = cond (number_of e == 5) second (Err e)
