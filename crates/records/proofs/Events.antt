-- The event that words begin with, and where it stands. Assumes nothing.
use Rattle.std.proofs.Common.{◌≡◌, ℕ, ◌+◌, ◌<◌, ◌≤◌, Bool, true, false, cond, ◌&&◌, eqb, leb, List, length, get_or, drop, Some, None, Option, sym, refl, ap, ◌∙◌, subst, arith}
use Rattle.std.proofs.lemmas.List.{get_or_past, get_or-drop}
use Rattle.std.proofs.lemmas.Bool.{cond-false, cond_both, le-leb}
use Rattle.records.specs.declared.event.Event.{Event}
use Rattle.records.specs.Words.{kind, event_in}
use Rattle.records.specs.Journal.{month_start, stands, standing_at, event_at, first_event, EventThere}

third_fails : (a b : Bool) → (a && (b && false)) ≡ false
third_fails true true = refl
third_fails true false = refl
third_fails false b = refl

short_not_standing : (ws : List ℕ) → length ws < 3 → stands (get_or ws 0 0) (get_or ws 1 0) (get_or ws 2 0) ≡ false
short_not_standing ws h =
    let past : eqb (kind (get_or ws 2 0)) 4 ≡ false = ap (λ w. eqb (kind w) 4) (get_or_past ws 2 0 (omega arith)) in
    rw past (third_fails (eqb (kind (get_or ws 0 0)) 1) (eqb (kind (get_or ws 1 0)) 3))

pub short_none : (ws : List ℕ) → length ws < 3 → first_event ws ≡ None
short_none ws h = cond-false _ (Some (event_at 0 ws)) None (short_not_standing ws h)

-- three words at a place of this month
three_there : (place : ℕ) (ws : List ℕ) (a b c : ℕ) → month_start ws ≤ place → a ≡ get_or ws place 0 → b ≡ get_or ws (place + 1) 0 → c ≡ get_or ws (place + 2) 0
    → EventThere place ws (cond (stands a b c) (Some (event_in a b c)) None)
three_there place ws a b c h ea eb ec =
    let since : leb (month_start ws) place ≡ true = le-leb _ _ h in
    let same : stands a b c ≡ stands (get_or ws place 0) (get_or ws (place + 1) 0) (get_or ws (place + 2) 0) = cc (ea, eb, ec) in
    let here : standing_at place ws ≡ stands a b c = ap (λ t. t && stands (get_or ws place 0) (get_or ws (place + 1) 0) (get_or ws (place + 2) 0)) since ∙ sym same in
    cond_both (stands a b c) _ _ (EventThere place ws) (λ e. (here ∙ e, cc (ea, eb, ec))) (λ e. here ∙ e)

-- the standing event that the words from a place of this month on begin with
pub there : (place : ℕ) (ws : List ℕ) (r : Option Event) → month_start ws ≤ place → r ≡ first_event (drop place ws) → EventThere place ws r
there place ws r h e =
    subst (EventThere place ws) (sym e) (three_there place ws _ _ _ h
    (get_or-drop place ws 0 0 ∙ ap (λ k. get_or ws k 0) (omega arith)) (get_or-drop place ws 1 0) (get_or-drop place ws 2 0))
