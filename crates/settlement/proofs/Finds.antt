-- A search by number in lent lines, and what the lines it stands for say of the number. Assumes nothing.
use Rattle.std.proofs.Common.{◌≡◌, ℕ, zero, suc, ◌+◌, ◌≤◌, min, Bool, true, false, cond, ◌||◌, is_some, eqb, ltb, List, [], ◌∷◌, ◌++◌, map, take, drop, set, Some, None, Ok, Err, Option, Result, sym, refl, ap, ◌∙◌, subst, arith}
use Rattle.std.proofs.lemmas.Bool.{eqb-true}
use Rattle.std.specs.List.{slice_get, insert}
use Rattle.std.proofs.lemmas.List.{map-append, take-map, drop-map}
use Rattle.std.specs.Result.{MatchResult}
use Rattle.register.specs.declared.Register.{Register}
use Rattle.register.specs.declared.Full.{Full}
use Rattle.register.specs.Held.{Entered, Insertion}
use Rattle.register.specs.Numbered.{first_from, place_from}
use Rattle.settlement.specs.Registers.{has, found, entered, changed}
use Rattle.settlement.specs.Registers as by
use Rattle.settlement.specs.Finding.{FoundAt, Absent, LineFound}
use Rattle.std.specs.Option.{option_map, IfSome}
use Rattle.billing.specs.declared.party.Party.{Party}
use Rattle.billing.specs.Lines.{number}
use Rattle.billing.specs.Lent.{line_of}
use Rattle.std.specs.Bool.{then_some}
use Rattle.settlement.specs.declared.objection.Objection.{Objection}
use Rattle.settlement.specs.Book.{place_of}
use Rattle.settlement.specs.Objecting.{waits}
use Rattle.settlement.specs.Objections.{Pending}

some_same : {X : Type 0} (x y : X) → Some x ≡ Some y → x ≡ y
some_same x y e = cc

apart : {X : Type 0} (x : X) → None ≡ Some x → ⊥
apart x e = let z : ◌≡◌ {A = ℕ} 0 1 = cc in omega arith

module _ {R S : Type 0} (key : S → ℕ) (f : R → S) where
  -- a place that was found is not in front of where the search began
  not_before : (n j m : ℕ) (rs : List R) → first_from (λ r. key (f r)) n j rs ≡ Some m → j ≤ m
  not_before n j m [] e = absurd (apart m e)
  not_before n j m (r ∷ rs) e = go (λ u. not_before n (j + 1) m rs u) (eqb (key (f r)) n) e
    where
      go : (first_from (λ r. key (f r)) n (j + 1) rs ≡ Some m → j + 1 ≤ m) → (t : Bool) → cond t (Some j) (first_from (λ r. key (f r)) n (j + 1) rs) ≡ Some m → j ≤ m
      go ih true u = let same : j ≡ m = some_same j m u in omega arith
      go ih false u = let more = ih u in omega arith

  none_from : (n j : ℕ) (rs : List R) → first_from (λ r. key (f r)) n j rs ≡ None → Absent key n (map f rs)
  none_from n j [] e = record { missing = refl; none = refl }
  none_from n j (r ∷ rs) e = go (λ u. none_from n (j + 1) rs u) (eqb (key (f r)) n) refl e
    where
      go : (first_from (λ r. key (f r)) n (j + 1) rs ≡ None → Absent key n (map f rs)) → (t : Bool) → eqb (key (f r)) n ≡ t →
          cond t (Some j) (first_from (λ r. key (f r)) n (j + 1) rs) ≡ None → Absent key n (f r ∷ map f rs)
      go ih true q u = absurd (apart j (sym u))
      go ih false q u =
          let a = ih u in
          record {
            missing = ap (λ t. t || has key n (map f rs)) q ∙ a.missing;
            none = ap (λ t. cond t (Some (f r)) (found key n (map f rs))) q ∙ a.none;
          }

  found_from : (n j i : ℕ) (rs : List R) (x : R) → first_from (λ r. key (f r)) n j rs ≡ Some (j + i) → slice_get rs i ≡ Some x → FoundAt key n (map f rs) i (f x)
  found_from n j i [] x e h = absurd (apart x h)
  found_from n j i (r ∷ rs) x e h = go (λ k u v. found_from n (j + 1) k rs x u v) (eqb (key (f r)) n) refl i e h
    where
      go : ((k : ℕ) → first_from (λ r. key (f r)) n (j + 1) rs ≡ Some (j + 1 + k) → slice_get rs k ≡ Some x → FoundAt key n (map f rs) k (f x)) → (t : Bool) → eqb (key (f r)) n ≡ t →
          (i : ℕ) → cond t (Some j) (first_from (λ r. key (f r)) n (j + 1) rs) ≡ Some (j + i) → slice_get (r ∷ rs) i ≡ Some x → FoundAt key n (f r ∷ map f rs) i (f x)
      go ih true q zero u v =
          let same : r ≡ x = some_same r x v in
          record {
            there = ap (λ t. t || has key n (map f rs)) q;
            named = sym (ap (λ y. key (f y)) same) ∙ eqb-true (key (f r)) n q;
            first = ap (λ t. cond t (Some (f r)) (found key n (map f rs))) q ∙ ap (λ y. Some (f y)) same;
            change = λ g. ap (λ t. cond t (g (f r) ∷ map f rs) (f r ∷ changed key n g (map f rs))) q ∙ ap (λ y. g (f y) ∷ map f rs) same;
            remove = ap (λ t. cond t (map f rs) (f r ∷ by.removed key n (map f rs))) q;
          }
      go ih true q (suc k) u v = absurd (let same : j ≡ j + suc k = some_same j (j + suc k) u in omega arith)
      go ih false q zero u v = absurd (let more = not_before n (j + 1) (j + 0) rs u in omega arith)
      go ih false q (suc k) u v =
          let shift : j + suc k ≡ j + 1 + k = omega arith in
          let a = ih k (u ∙ ap Some shift) v in
          record {
            there = ap (λ t. t || has key n (map f rs)) q ∙ a.there;
            named = a.named;
            first = ap (λ t. cond t (Some (f r)) (found key n (map f rs))) q ∙ a.first;
            change = λ g. ap (λ t. cond t (g (f r) ∷ map f rs) (f r ∷ changed key n g (map f rs))) q ∙ ap (λ ys. f r ∷ ys) (a.change g);
            remove = ap (λ t. cond t (map f rs) (f r ∷ by.removed key n (map f rs))) q ∙ ap (λ ys. f r ∷ ys) a.remove;
          }

  pub none_at : (n : ℕ) (rs : List R) → None ≡ first_from (λ r. key (f r)) n 0 rs → Absent key n (map f rs)
  none_at n rs e = none_from n 0 rs (sym e)

  pub found_at : (n i : ℕ) (rs : List R) (x : R) → Some i ≡ first_from (λ r. key (f r)) n 0 rs → Some x ≡ slice_get rs i → FoundAt key n (map f rs) i (f x)
  found_at n i rs x e h = let same : i ≡ 0 + i = omega arith in found_from n 0 i rs x (sym e ∙ ap Some same) (sym h)

  -- a place that was found has a record
  pub never_lost : {P : Type 0} (n i : ℕ) (rs : List R) → Some i ≡ first_from (λ r. key (f r)) n 0 rs → None ≡ slice_get rs i → P
  never_lost n i rs e h = absurd (let same : i ≡ 0 + i = omega arith in lost n 0 i rs (sym e ∙ ap Some same) (sym h))
    where
      lost : (n j i : ℕ) (rs : List R) → first_from (λ r. key (f r)) n j rs ≡ Some (j + i) → slice_get rs i ≡ None → ⊥
      lost n j i [] e h = apart (j + i) e
      lost n j i (r ∷ rs) e h = go (λ k u v. lost n (j + 1) k rs u v) (eqb (key (f r)) n) i e h
        where
          go : ((k : ℕ) → first_from (λ r. key (f r)) n (j + 1) rs ≡ Some (j + 1 + k) → slice_get rs k ≡ None → ⊥) → (t : Bool) →
              (i : ℕ) → cond t (Some j) (first_from (λ r. key (f r)) n (j + 1) rs) ≡ Some (j + i) → slice_get (r ∷ rs) i ≡ None → ⊥
          go ih t zero u v = apart r (sym v)
          go ih true (suc k) u v = let same : j ≡ j + suc k = some_same j (j + suc k) u in omega arith
          go ih false (suc k) u v = let shift : j + suc k ≡ j + 1 + k = omega arith in ih k (u ∙ ap Some shift) v

  map_inserted : (rs : List R) (i : ℕ) (x : R) → map f (insert rs i x) ≡ insert (map f rs) i (f x)
  map_inserted rs i x =
      map-append f (take i rs) (x ∷ drop i rs)
      ∙ (ap (λ l. l ++ (f x ∷ map f (drop i rs))) (sym (take-map f i rs)) ∙ ap (λ l. take i (map f rs) ++ (f x ∷ l)) (sym (drop-map f i rs)))

  not_in_front : (n j : ℕ) (rs : List R) → j ≤ place_from (λ r. key (f r)) n j rs
  not_in_front n j [] = omega arith
  not_in_front n j (r ∷ rs) = go (not_in_front n (j + 1) rs) (ltb n (key (f r)))
    where
      go : j + 1 ≤ place_from (λ r. key (f r)) n (j + 1) rs → (t : Bool) → j ≤ cond t j (place_from (λ r. key (f r)) n (j + 1) rs)
      go ih true = omega arith
      go ih false = omega arith

  -- a record that is put in front of the first larger one
  entered_from : (x : S) (j i : ℕ) (rs : List R) → j + i ≡ place_from (λ r. key (f r)) (key x) j rs → insert (map f rs) i x ≡ entered key x (map f rs)
  entered_from x j i [] e = let none : i ≡ 0 = omega arith in ap (λ k. insert [] k x) none
  entered_from x j i (r ∷ rs) e = go (λ k u. entered_from x (j + 1) k rs u) (ltb (key x) (key (f r))) i e
    where
      go : ((k : ℕ) → j + 1 + k ≡ place_from (λ r. key (f r)) (key x) (j + 1) rs → insert (map f rs) k x ≡ entered key x (map f rs)) → (t : Bool) →
          (i : ℕ) → j + i ≡ cond t j (place_from (λ r. key (f r)) (key x) (j + 1) rs) →
          insert (f r ∷ map f rs) i x ≡ cond t (x ∷ f r ∷ map f rs) (f r ∷ entered key x (map f rs))
      go ih true zero u = refl
      go ih true (suc k) u = absurd (omega arith)
      go ih false zero u = absurd (let more = not_in_front (key x) (j + 1) rs in omega arith)
      go ih false (suc k) u = ap (λ ys. f r ∷ ys) (ih k (let same : j + 1 + k ≡ j + suc k = omega arith in same ∙ u))

  pub entered_at : (x : R) (i : ℕ) (rs : List R) → i ≡ place_from (λ r. key (f r)) (key (f x)) 0 rs → map f (insert rs i x) ≡ entered key (f x) (map f rs)
  entered_at x i rs e = map_inserted rs i x ∙ entered_from (f x) 0 i rs (let same : 0 + i ≡ i = omega arith in same ∙ e)

-- a line that was not refused was entered
pub inserted : {R : Type 0} {limit : ℕ} (P : ℕ → Type 0) (number : R → ℕ) (before after : Register R limit) (line : R) (r : Result ℕ Full) →
    Insertion number before after line r → MatchResult r P (λ _. ⊥) → (i : ℕ) × Entered number before after line i
inserted P number before after line (Ok i) ins m = (i, ins)
inserted P number before after line (Err e) ins m = absurd m

-- the room of a register is never above its limit
pub min_twice : (a b : ℕ) → min a (min a b) ≡ min a b
min_twice a b = omega arith

pub map_same : {R : Type 0} (rs : List R) → map (λ r. r) rs ≡ rs
map_same [] = refl
map_same (r ∷ rs) = ap (λ ys. r ∷ ys) (map_same rs)

-- the same of a register whose lines stand for themselves
module _ {R : Type 0} (key : R → ℕ) where
  pub none_here : (n : ℕ) (rs : List R) → None ≡ first_from key n 0 rs → Absent key n rs
  none_here n rs e = subst (Absent key n) (map_same rs) (none_at key (λ r. r) n rs e)

  pub record_here : (n i : ℕ) (rs : List R) (x : R) → Some i ≡ first_from key n 0 rs → Some x ≡ slice_get rs i → FoundAt key n rs i x
  record_here n i rs x e h = subst (λ ys. FoundAt key n ys i x) (map_same rs) (found_at key (λ r. r) n i rs x e h)

  pub found_here : (n i : ℕ) (rs : List R) → Some i ≡ first_from key n 0 rs → has key n rs ≡ true
  found_here n i rs e = go (slice_get rs i) refl
    where
      go : (o : Option R) → slice_get rs i ≡ o → has key n rs ≡ true
      go None h = never_lost key (λ r. r) n i rs e (sym h)
      go (Some x) h = (record_here n i rs x e (sym h)).there

  pub entered_here : (x : R) (i : ℕ) (rs : List R) → i ≡ place_from key (key x) 0 rs → insert rs i x ≡ entered key x rs
  entered_here x i rs e =
      sym (map_same (insert rs i x)) ∙ (entered_at key (λ r. r) x i rs e ∙ ap (entered key x) (map_same rs))

  -- there is a record of the number where the search finds a place
  pub has_found : (n : ℕ) (rs : List R) (o : Option ℕ) → o ≡ first_from key n 0 rs → is_some o ≡ has key n rs
  has_found n rs None e = sym (none_here n rs e).missing
  has_found n rs (Some i) e = sym (found_here n i rs e)

-- an objection that was found is pending if it waits
pub pending_there : (place : ℕ) (os : List Objection) (i : ℕ) (o : Objection) → FoundAt place_of place os i o → Pending place os (then_some o.waiting i)
pending_there place os i o at = go o.waiting refl
  where
    go : (t : Bool) → o.waiting ≡ t → Pending place os (then_some t i)
    go false e = ap waits at.first ∙ e
    go true e = record {
      waiting = ap waits at.first ∙ e;
      dismissed = at.change (λ o. record { place = o.place; waiting = false }) ∙ ap (λ n. set os i (record { place = n; waiting = false })) at.named;
      freed = at.remove;
    }

-- a line that was looked up, or that there is none
pub line_looked_up : (n : ℕ) (ps : List Party) (o : Option (ℕ × Party)) → option_map (λ p. p.0) o ≡ first_from (λ p. number (line_of p)) n 0 ps →
    IfSome o (λ p. Some p.1 ≡ slice_get ps p.0) → LineFound n (map line_of ps) o
line_looked_up n ps None first line = none_at number line_of n ps first
line_looked_up n ps (Some at) first line = found_at number line_of n at.0 ps at.1 first line
