-- What the checks of a posting say of its words and of its party's line. Assumes nothing.
use Rattle.std.proofs.Common.{◌≡◌, ℕ, ◌+◌, ◌≤◌, Bool, true, false, cond, ◌&&◌, ◌||◌, eqb, ltb, leb, List, [], ◌∷◌, ◌++◌, nat_abs, Some, None, Ok, Err, Option, sym, refl, ap, ◌∙◌, subst, arith}
use Rattle.std.proofs.lemmas.Bool.{lt-ltb, le-ltb, le-leb, leb-true, leb-false, and_from, and_left, and_right, or_from, or_left, or_right}
use Rattle.rules.specs.declared.account.Account.{Account}
use Rattle.rules.specs.declared.account.Account.TheVariants.{Charges, First, Second, Third}
use Rattle.rules.specs.Sums.{account, ◌plus◌}
use Rattle.rules.specs.Calendar.{slots}
use Rattle.rules.specs.declared.refusal.Refusal.{Refusal}
use Rattle.records.specs.declared.event.Event.{Event}
use Rattle.records.specs.Words.{encodable, event_words}
use Rattle.billing.specs.Lines.{Line, number, with_sums, credit}
use Rattle.billing.specs.Bills.{sums_over}
use Rattle.settlement.specs.Registers.{found}
use Rattle.settlement.specs.Checks.{Check, first_of, unless}
use Rattle.settlement.specs.Posting.{unpostable}
use Rattle.settlement.specs.Admitting.{WordsFor}

-- the slot is not in the month
pub slot_outside : (m : ℕ) (e : Event) → leb (slots m) e.slot ≡ true → unpostable m e ≡ true
unfolding unpostable
slot_outside m e h = go (ltb 31 e.service)
  where
    go : (t : Bool) → (t || (leb (slots m) e.slot || (ltb 4_000_000 (nat_abs e.x) || ltb 4_000_000 (nat_abs e.y)))) ≡ true
    go true = refl
    go false = ap (λ u. u || (ltb 4_000_000 (nat_abs e.x) || ltb 4_000_000 (nat_abs e.y))) h

-- in the month, an event of an enrolled party has words just when it may be posted
pub written : (m : ℕ) (e : Event) → e.party ≤ 1023 → e.slot ≤ 16_383 → leb (slots m) e.slot ≡ false →
    WordsFor m e (cond (encodable e) (Some (event_words e)) None)
unfolding unpostable encodable
written m e p s h = go S X Y refl refl refl
  where
    P : Bool
    P = leb e.party 1023

    S : Bool
    S = leb e.service 31

    L : Bool
    L = leb e.slot 16_383

    X : Bool
    X = leb (nat_abs e.x) 4_000_000

    Y : Bool
    Y = leb (nat_abs e.y) 4_000_000

    past_service : Bool
    past_service = ltb 31 e.service

    past_slot : Bool
    past_slot = leb (slots m) e.slot

    past_x : Bool
    past_x = ltb 4_000_000 (nat_abs e.x)

    past_y : Bool
    past_y = ltb 4_000_000 (nat_abs e.y)

    no : encodable e ≡ false → unpostable m e ≡ true → WordsFor m e (cond (encodable e) (Some (event_words e)) None)
    no q u = subst (λ t. WordsFor m e (cond t (Some (event_words e)) None)) (sym q) u

    yes : encodable e ≡ true → unpostable m e ≡ false → WordsFor m e (cond (encodable e) (Some (event_words e)) None)
    yes q u = subst (λ t. WordsFor m e (cond t (Some (event_words e)) None)) (sym q) (u, refl)

    beyond : (n most : ℕ) → leb n most ≡ false → ltb most n ≡ true
    beyond n most q = lt-ltb most n (leb-false n most q)

    within : (n most : ℕ) → leb n most ≡ true → ltb most n ≡ false
    within n most q = le-ltb most n (leb-true n most q)

    go : (service x y : Bool) → S ≡ service → X ≡ x → Y ≡ y → WordsFor m e (cond (encodable e) (Some (event_words e)) None)
    go false x y qs qx qy = no
        (and_left (P && (S && L)) (X && Y) (and_right P (S && L) (and_left S L qs)))
        (or_left past_service (past_slot || (past_x || past_y)) (beyond e.service 31 qs))
    go true false y qs qx qy = no
        (and_right (P && (S && L)) (X && Y) (and_left X Y qx))
        (or_right past_service (past_slot || (past_x || past_y)) (or_right past_slot (past_x || past_y) (or_left past_x past_y (beyond (nat_abs e.x) 4_000_000 qx))))
    go true true false qs qx qy = no
        (and_right (P && (S && L)) (X && Y) (and_right X Y qy))
        (or_right past_service (past_slot || (past_x || past_y)) (or_right past_slot (past_x || past_y) (or_right past_x past_y (beyond (nat_abs e.y) 4_000_000 qy))))
    go true true true qs qx qy = yes
        (and_from (P && (S && L)) (X && Y) (and_from P (S && L) (le-leb e.party 1023 p) (and_from S L qs (le-leb e.slot 16_383 s))) (and_from X Y qx qy))
        (or_from past_service (past_slot || (past_x || past_y)) (within e.service 31 qs)
        (or_from past_slot (past_x || past_y) h (or_from past_x past_y (within (nat_abs e.x) 4_000_000 qx) (within (nat_abs e.y) 4_000_000 qy))))

-- a line holds no more than all lines together
pub line_within : (a : Account) (n : ℕ) (ls : List Line) (l : Line) → found number n ls ≡ Some l → account a l.sums ≤ account a (sums_over ls)
line_within a n [] l e = absurd (let z : ◌≡◌ {A = ℕ} 0 1 = cc in omega arith)
line_within a n (k ∷ ls) l e = go (λ u. line_within a n ls l u) (eqb (number k) n) e
  where
    more : (a : Account) → account a (sums_over (k ∷ ls)) ≡ account a k.sums + account a (sums_over ls)
    more Charges = refl
    more First = refl
    more Second = refl
    more Third = refl

    go : (found number n ls ≡ Some l → account a l.sums ≤ account a (sums_over ls)) → (t : Bool) → cond t (Some k) (found number n ls) ≡ Some l →
        account a l.sums ≤ account a (sums_over (k ∷ ls))
    go ih true u = let same : k ≡ l = cc in omega (arith, more a, ap (λ x. account a x.sums) same)
    go ih false u = omega (arith, more a, ih u)

-- checks that are looked at after others
pub first_then : (cs ds : List Check) → first_of cs ≡ None → first_of (cs ++ ds) ≡ first_of ds
first_then [] ds h = refl
first_then (c ∷ cs) ds h = go c.1 (λ u. first_then cs ds u) h
  where
    go : (t : Bool) → (first_of cs ≡ None → first_of (cs ++ ds) ≡ first_of ds) → cond t (Some c.0) (first_of cs) ≡ None → cond t (Some c.0) (first_of (cs ++ ds)) ≡ first_of ds
    go true ih u = absurd (let z : ◌≡◌ {A = ℕ} 0 1 = cc in omega arith)
    go false ih u = ih u

pub first_stops : (cs ds : List Check) (x : Refusal) → first_of cs ≡ Some x → first_of (cs ++ ds) ≡ Some x
first_stops [] ds x h = absurd (let z : ◌≡◌ {A = ℕ} 0 1 = cc in omega arith)
first_stops (c ∷ cs) ds x h = go c.1 (λ u. first_stops cs ds x u) h
  where
    go : (t : Bool) → (first_of cs ≡ Some x → first_of (cs ++ ds) ≡ Some x) → cond t (Some c.0) (first_of cs) ≡ Some x → cond t (Some c.0) (first_of (cs ++ ds)) ≡ Some x
    go true ih u = u
    go false ih u = ih u

pub last_clear : (cs : List Check) (x : Refusal) (t : Bool) → first_of cs ≡ None → t ≡ false → first_of (cs ++ ((x, t) ∷ [])) ≡ None
last_clear cs x t h e = first_then cs ((x, t) ∷ []) h ∙ ap (λ u. cond u (Some x) None) e

-- a line that holds no more than it may is credited
pub credit_held : (a : Account) (n : ℕ) (l : Line) → account a l.sums + n ≤ 40_000_000_000 → None ≡ credit a n l → ⊥
credit_held a n l h e =
    let none : None ≡ Some (with_sums (l.sums plus Ok (a, n)) l) = e ∙ ap (λ t. cond t (Some (with_sums (l.sums plus Ok (a, n)) l)) None) (le-leb (account a l.sums + n) 40_000_000_000 h) in
    let z : ◌≡◌ {A = ℕ} 0 1 = cc in
    omega arith

-- what is refused for a reason is refused for the first one
pub first_reason : (o : Option Refusal) (e : Refusal) → Err e ≡ unless o → o ≡ Some e
first_reason None e h = absurd (let z : ◌≡◌ {A = ℕ} 0 1 = cc in omega arith)
first_reason (Some x) e h = let same : x ≡ e = cc in ap Some same
