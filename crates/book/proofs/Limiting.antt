-- Every call keeps the book within its limits. Assumes nothing.
use Rattle.std.proofs.Common.{◌≡◌, ℕ, zero, suc, ◌+◌, ◌*◌, ◌/◌, ◌%◌, ◌<◌, ◌≤◌, Bool, true, false, cond, ◌&&◌, eqb, ltb, leb, List, [], ◌∷◌, map, length, get_or, set, ℤ, pos, negsuc, nat_abs, Some, Ok, Err, refl, ap, ◌∙◌, subst, arith}
use Rattle.std.proofs.lemmas.Bool.{eqb-true, ltb-false, leb-false, or_parts}
use Rattle.std.specs.List.{AllByRecursion}
use Rattle.rules.specs.Answers.{Answer, Rulebook}
use Rattle.rules.specs.declared.account.Account.{Account}
use Rattle.rules.specs.declared.account.Account.TheVariants.{Charges, First, Second, Third}
use Rattle.rules.specs.declared.sums.Sums.{Sums}
use Rattle.rules.specs.Sums.{nothing, account, ◌plus◌}
use Rattle.rules.specs.Calendar.{days, month_lengths, slots}
use Rattle.settlement.specs.Registers.{found, entered, changed, removed}
use Rattle.records.specs.declared.enrolment.Enrolment.{Enrolment}
use Rattle.billing.specs.declared.reading.Reading.{Reading}
use Rattle.billing.specs.Lines.{runs, Line, blank, number, take_reading}
use Rattle.records.specs.declared.event.Event.{Event}
use Rattle.records.specs.Asking.{facts}
use Rattle.records.specs.Words.{event_words}
use Rattle.billing.specs.Bills.{sums_over}
use Rattle.settlement.specs.Enrolling.{unreadable}
use Rattle.settlement.specs.Posting.{charge, unpostable}
use Rattle.rules.specs.declared.kind.Kind.{Kind}
use Rattle.settlement.specs.Objecting.{take_off}
use Rattle.book.specs.Limits.{PartyFits, SumsFit, LineFits}
use Rattle.book.proofs.Strikes.{same_sums}
use Rattle.book.proofs.Wording.{Fits, shifted_small}

module _ {R : Type 0} (key : R → ℕ) where
  pub all_entered : (P : R → Type 0) (r : R) (rs : List R) → P r → AllByRecursion P rs → AllByRecursion P (entered key r rs)
  all_entered P r [] h a = (h, tt)
  all_entered P r (q ∷ qs) h a = go (all_entered P r qs h a.1) (ltb (key r) (key q))
    where
      go : AllByRecursion P (entered key r qs) → (t : Bool) → AllByRecursion P (cond t (r ∷ q ∷ qs) (q ∷ entered key r qs))
      go ih true = (h, a)
      go ih false = (a.0, ih)

  -- the record that is changed is the one that is found
  pub all_changed : (P : R → Type 0) (n : ℕ) (f : R → R) (rs : List R) → ((r : R) → found key n rs ≡ Some r → P r → P (f r)) → AllByRecursion P rs → AllByRecursion P (changed key n f rs)
  all_changed P n f [] h a = tt
  all_changed P n f (r ∷ rs) h a = go (λ g. all_changed P n f rs g a.1) (eqb (key r) n) refl
    where
      go : (((q : R) → found key n rs ≡ Some q → P q → P (f q)) → AllByRecursion P (changed key n f rs)) → (t : Bool) → eqb (key r) n ≡ t → AllByRecursion P (cond t (f r ∷ rs) (r ∷ changed key n f rs))
      go ih true e = (h r (ap (λ t. cond t (Some r) (found key n rs)) e) a.0, a.1)
      go ih false e = (a.0, ih (λ q u. h q (ap (λ t. cond t (Some r) (found key n rs)) e ∙ u)))

  pub length_entered : (r : R) (rs : List R) → length (entered key r rs) ≡ suc (length rs)
  length_entered r [] = refl
  length_entered r (q ∷ qs) = go (length_entered r qs) (ltb (key r) (key q))
    where
      go : length (entered key r qs) ≡ suc (length qs) → (t : Bool) → length (cond t (r ∷ q ∷ qs) (q ∷ entered key r qs)) ≡ suc (suc (length qs))
      go ih true = refl
      go ih false = ap suc ih

  pub length_changed : (n : ℕ) (f : R → R) (rs : List R) → length (changed key n f rs) ≡ length rs
  length_changed n f [] = refl
  length_changed n f (r ∷ rs) = go (length_changed n f rs) (eqb (key r) n)
    where
      go : length (changed key n f rs) ≡ length rs → (t : Bool) → length (cond t (f r ∷ rs) (r ∷ changed key n f rs)) ≡ suc (length rs)
      go ih true = refl
      go ih false = ap suc ih

  pub length_removed : (n : ℕ) (rs : List R) → length (removed key n rs) ≤ length rs
  length_removed n [] = omega arith
  length_removed n (r ∷ rs) = go (length_removed n rs) (eqb (key r) n)
    where
      go : length (removed key n rs) ≤ length rs → (t : Bool) → length (cond t rs (r ∷ removed key n rs)) ≤ suc (length rs)
      go ih true = omega arith
      go ih false = omega arith

pub all_set : (P : ℕ → Type 0) (ws : List ℕ) (q v : ℕ) → AllByRecursion P ws → P v → AllByRecursion P (set ws q v)
all_set P [] q v a h = tt
all_set P (w ∷ ws) zero v a h = (h, a.1)
all_set P (w ∷ ws) (suc q) v a h = (a.0, all_set P ws q v a.1 h)

-- the days of a month
abbrev Each : List ℕ → Type 0
Each [] = Unit {0}
Each (x ∷ xs) = (x ≤ 31) × Each xs

getD_small : (xs : List ℕ) (k : ℕ) → Each xs → get_or xs k 0 ≤ 31
getD_small [] k h = omega arith
getD_small (x ∷ xs) zero h = h.0
getD_small (x ∷ xs) (suc k) h = getD_small xs k h.1

pub days_within : (m : ℕ) → days m ≤ 31
unfolding days
days_within m = go (eqb (m % 12) 1) (eqb (m / 12 % 4) 0) refl
  where
    each : Each month_lengths
    each = omega arith

    go : (s t : Bool) → eqb (m % 12) 1 ≡ s → get_or month_lengths (m % 12) 0 + cond (s && t) 1 0 ≤ 31
    go false t e = omega (arith, getD_small month_lengths (m % 12) each)
    go true false e = omega (arith, getD_small month_lengths (m % 12) each)
    go true true e = omega (arith, ap (λ k. get_or month_lengths k 0) (eqb-true (m % 12) 1 e))

-- a reading that the month and the kind allow
pub record Allowed (m : ℕ) (r : Reading) : Type 0 where
  pub slot : r.slot < slots m
  pub power : nat_abs r.power ≤ 4_000_000

pub allowed : (m : ℕ) (k : Kind) (r : Reading) → unreadable m k r ≡ false → Allowed m r
unfolding unreadable
allowed m k r h =
    let o1 = or_parts (leb (slots m) r.slot) _ h in
    let o2 = or_parts (ltb 4_000_000 (nat_abs r.power)) _ o1.1 in
    record { slot = leb-false _ _ o1.0; power = ltb-false _ _ o2.0 }

-- an event that the month allows
pub record Postable (m : ℕ) (e : Event) : Type 0 where
  pub service : e.service ≤ 31
  pub slot : e.slot < slots m
  pub x : nat_abs e.x ≤ 4_000_000
  pub y : nat_abs e.y ≤ 4_000_000

pub postable : (m : ℕ) (e : Event) → unpostable m e ≡ false → Postable m e
unfolding unpostable
postable m e h =
    let o1 = or_parts (ltb 31 e.service) _ h in
    let o2 = or_parts (leb (slots m) e.slot) _ o1.1 in
    let o3 = or_parts (ltb 4_000_000 (nat_abs e.x)) (ltb 4_000_000 (nat_abs e.y)) o2.1 in
    record { service = ltb-false _ _ o1.0; slot = leb-false _ _ o2.0; x = ltb-false _ _ o3.0; y = ltb-false _ _ o3.1 }

-- a line without its sums
pub record Framed (l : Line) : Type 0 where
  pub party : PartyFits l.party
  pub passed : l.passed ≤ 8_928
  pub magnitude : l.magnitude ≤ 4_000_000 * l.passed
  pub running : l.running ≤ l.passed

runs_once : (p : Enrolment) (x : ℤ) → runs p x ≤ 1
runs_once p (pos n) = go (ltb (3 * p.capacity) (100 * n))
  where
    go : (t : Bool) → cond t 1 0 ≤ 1
    go true = omega arith
    go false = omega arith
runs_once p (negsuc n) = omega arith

pub framed_reading : (r : Reading) (l : Line) → r.slot < 8_928 → nat_abs r.power ≤ 4_000_000 → l.passed ≤ r.slot → Framed l → Framed (take_reading r l)
framed_reading r l slot power later f = record {
  party = f.party;
  passed = omega arith;
  magnitude = omega (arith, f.magnitude);
  running = omega (arith, f.running, runs_once l.party r.power);
}

-- sums that are no greater
pub record Below (s t : Sums) : Type 0 where
  pub charges : s.charges ≤ t.charges
  pub first : s.first ≤ t.first
  pub second : s.second ≤ t.second
  pub third : s.third ≤ t.third

abbrev with_first : Sums → Sums → Sums
with_first s t = record { charges = s.charges + t.charges; first = s.first + t.first; second = s.second + t.second; third = s.third + t.third }

-- the sums over the lines once one line is changed
module _ (means : Rulebook) (m : ℕ) (e : Event) where
  pub sums_charged : (n : ℕ) (ls : List Line) (l : Line) → found number n ls ≡ Some l →
      sums_over (changed number n (charge means m e) ls) ≡ sums_over ls plus means (facts l.party m e)
  sums_charged n [] l h = absurd (let z : ◌≡◌ {A = ℕ} 0 1 = cc in omega arith)
  sums_charged n (k ∷ ls) l h = go (λ u. sums_charged n ls l u) (eqb (number k) n) h
    where
      go : (found number n ls ≡ Some l → sums_over (changed number n (charge means m e) ls) ≡ sums_over ls plus means (facts l.party m e)) →
          (t : Bool) → cond t (Some k) (found number n ls) ≡ Some l →
          sums_over (cond t (charge means m e k ∷ ls) (k ∷ changed number n (charge means m e) ls)) ≡ sums_over (k ∷ ls) plus means (facts l.party m e)
      go ih true u =
          let same : k ≡ l = cc in
          subst (λ x. sums_over (charge means m e k ∷ ls) ≡ sums_over (k ∷ ls) plus means (facts x.party m e)) same
          (same_sums (sums_over (charge means m e k ∷ ls)) (sums_over (k ∷ ls) plus means (facts k.party m e)) (omega arith) (omega arith) (omega arith) (omega arith))
      go ih false u =
          let q = ih u in
          same_sums (sums_over (k ∷ changed number n (charge means m e) ls)) (sums_over (k ∷ ls) plus means (facts l.party m e))
          (omega (arith, ap (λ x. x.charges) q)) (omega (arith, ap (λ x. x.first) q)) (omega (arith, ap (λ x. x.second) q)) (omega (arith, ap (λ x. x.third) q))

  pub sums_taken : (n : ℕ) (ls : List Line) → SumsFit (sums_over ls) → Below (sums_over (changed number n (take_off means m e) ls)) (sums_over ls)
  sums_taken n [] f = record { charges = omega arith; first = omega arith; second = omega arith; third = omega arith }
  sums_taken n (k ∷ ls) f =
      go (sums_taken n ls (record { charges = omega (arith, f.charges); first = omega (arith, f.first); second = omega (arith, f.second); third = omega (arith, f.third) })) (eqb (number k) n)
    where
      go : Below (sums_over (changed number n (take_off means m e) ls)) (sums_over ls) → (t : Bool) →
          Below (sums_over (cond t (take_off means m e k ∷ ls) (k ∷ changed number n (take_off means m e) ls))) (sums_over (k ∷ ls))
      go ih true = record { charges = omega arith; first = omega arith; second = omega arith; third = omega arith }
      go ih false = record { charges = omega (arith, ih.charges); first = omega (arith, ih.first); second = omega (arith, ih.second); third = omega (arith, ih.third) }

pub sums_read : (n : ℕ) (r : Reading) (ls : List Line) → sums_over (changed number n (take_reading r) ls) ≡ sums_over ls
sums_read n r [] = refl
sums_read n r (k ∷ ls) = go (sums_read n r ls) (eqb (number k) n)
  where
    go : sums_over (changed number n (take_reading r) ls) ≡ sums_over ls → (t : Bool) →
        sums_over (cond t (take_reading r k ∷ ls) (k ∷ changed number n (take_reading r) ls)) ≡ sums_over (k ∷ ls)
    go ih true = refl
    go ih false = ap (λ x. with_first k.sums x) ih

pub sums_entered : (p : Enrolment) (ls : List Line) → sums_over (entered number (blank p) ls) ≡ sums_over ls
sums_entered p [] = refl
sums_entered p (k ∷ ls) = go (sums_entered p ls) (ltb p.number (number k))
  where
    go : sums_over (entered number (blank p) ls) ≡ sums_over ls → (t : Bool) →
        sums_over (cond t (blank p ∷ k ∷ ls) (k ∷ entered number (blank p) ls)) ≡ sums_over (k ∷ ls)
    go ih true = same_sums (sums_over (blank p ∷ k ∷ ls)) (sums_over (k ∷ ls)) (omega arith) (omega arith) (omega arith) (omega arith)
    go ih false = ap (λ x. with_first k.sums x) ih

pub sums_blank : (ls : List Line) → sums_over (map (λ l. blank l.party) ls) ≡ nothing
sums_blank [] = refl
sums_blank (k ∷ ls) = ap (λ x. with_first nothing x) (sums_blank ls)

-- an answer that does not pass the limit of its account
pub plus_fits : (s : Sums) (a : Answer) → SumsFit s → ((c : Account × ℕ) → a ≡ Ok c → account c.0 s + c.1 ≤ 40_000_000_000) → SumsFit (s plus a)
plus_fits s (Err r) f h = record { charges = omega (arith, f.charges); first = omega (arith, f.first); second = omega (arith, f.second); third = omega (arith, f.third) }
plus_fits s (Ok (Charges, n)) f h = record { charges = h (Charges, n) refl; first = omega (arith, f.first); second = omega (arith, f.second); third = omega (arith, f.third) }
plus_fits s (Ok (First, n)) f h = record { charges = omega (arith, f.charges); first = h (First, n) refl; second = omega (arith, f.second); third = omega (arith, f.third) }
plus_fits s (Ok (Second, n)) f h = record { charges = omega (arith, f.charges); first = omega (arith, f.first); second = h (Second, n) refl; third = omega (arith, f.third) }
plus_fits s (Ok (Third, n)) f h = record { charges = omega (arith, f.charges); first = omega (arith, f.first); second = omega (arith, f.second); third = h (Third, n) refl }

-- each line's sums are within the sums over all lines
pub sums_each : (ls : List Line) → SumsFit (sums_over ls) → AllByRecursion (λ l. SumsFit l.sums) ls
sums_each [] f = tt
sums_each (k ∷ ls) f = (
  record { charges = omega (arith, f.charges); first = omega (arith, f.first); second = omega (arith, f.second); third = omega (arith, f.third) },
  sums_each ls (record { charges = omega (arith, f.charges); first = omega (arith, f.first); second = omega (arith, f.second); third = omega (arith, f.third) }),
)

pub lines_fit : (ls : List Line) → AllByRecursion Framed ls → AllByRecursion (λ l. SumsFit l.sums) ls → AllByRecursion LineFits ls
lines_fit [] a f = tt
lines_fit (k ∷ ls) a f = (
  record { party = a.0.party; sums = f.0; passed = a.0.passed; magnitude = a.0.magnitude; running = a.0.running },
  lines_fit ls a.1 f.1,
)

pub framed_blank : (ls : List Line) → AllByRecursion Framed ls → AllByRecursion Framed (map (λ l. blank l.party) ls)
framed_blank [] a = tt
framed_blank (k ∷ ls) a = (record { party = a.0.party; passed = omega arith; magnitude = omega arith; running = omega arith }, framed_blank ls a.1)

-- an event's words have 32 bits
pub words_fit : (e : Event) → Fits e → AllByRecursion (λ w. w < 4_294_967_296) (event_words e)
words_fit e f = (omega (arith, f), (omega (arith, shifted_small e.x f.x), (omega (arith, shifted_small e.y f.y), tt)))
