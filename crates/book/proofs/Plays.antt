-- Calls that were served so far. Assumes nothing.
use Rattle.std.proofs.Common.{◌≡◌, ℕ, ◌+◌, ◌<◌, List, [], ◌∷◌, ◌++◌, length, get_or, take, drop, Result, ap, ◌∙◌, subst, add-one, length-drop, drop-cons, arith}
use Rattle.std.proofs.lemmas.List.{take_more}
use Rattle.rules.specs.Answers.{Rulebook}
use Rattle.settlement.specs.Book.{State}
use Rattle.book.specs.declared.answer.Reply.{Reply}
use Rattle.book.specs.declared.answer.Denial.{Denial}
use Rattle.book.specs.declared.call.Call.{Call}
use Rattle.book.specs.Laws.{WithinLimits}
use Rattle.book.specs.Playing.{Plays, Played}
use Rattle.book.specs.Runs.{Trace, Run}
use Rattle.book.proofs.Lawful.{every_run_lawful}

pub record SoFar (means : Rulebook) (calls : List Call) (log : List (Result Reply Denial)) (after : State) : Type 0 where
  pub trace : Trace
  pub plays : Plays means calls log trace after
  pub run : Run means trace after

pub all_played : (means : Rulebook) → WithinLimits means → (calls : List Call) (log : List (Result Reply Denial)) {after : State} (i n : ℕ) → i ≡ n →
    SoFar means (take i calls) (take i log) after → Played means (take n calls) (take n log) after
all_played means limits calls log {after} i n e far = subst (λ k. Played means (take k calls) (take k log) after) e
    (record { trace = far.trace; plays = far.plays; run = far.run; lawful = every_run_lawful means limits far.trace after far.run })

-- the first of what is left of a list
pub record Next {X : Type 0} (xs : List X) (i : ℕ) (x : X) (rest : List X) : Type 0 where
  pub within : i < length xs
  pub front : take (i + 1) xs ≡ take i xs ++ (x ∷ [])
  pub back : rest ≡ drop (i + 1) xs

pub next_of : {X : Type 0} (xs : List X) (i : ℕ) (x : X) (rest : List X) → drop i xs ≡ x ∷ rest → Next xs i x rest
next_of xs i x rest e =
    let long = ap length e in
    let within : i < length xs = omega (arith, long, length-drop i xs) in
    let here : drop i xs ≡ get_or xs i x ∷ drop (i + 1) xs = rw (add-one, drop-cons xs i x) in
    let first : get_or xs i x ≡ x = cc in
    record { within = within; front = take_more xs i x within ∙ ap (λ y. take i xs ++ (y ∷ [])) first; back = cc }
