-- The scan from the last word back, for an event posted already. Assumes nothing.
use Rattle.std.proofs.Common.{◌≡◌, ℕ, suc, Bool, true, false, cond, ◌&&◌, ◌||◌, not, eqb, List, [], ◌∷◌, ◌++◌, reverse, drop, Some, None, Option, ◌/◌, ◌%◌, sym, refl, ap, ◌∙◌, rules}
use borrow.Author.Tests.{tests}
use Rattle.std.specs.List.{list_any, list_all, take_while, find}
use Rattle.std.proofs.lemmas.Grind.{reverse_onto}
use Rattle.std.proofs.lemmas.List.Folds.{list_all-append}
use Rattle.std.proofs.lemmas.List.Sums.{take_while-cons}
use Rattle.records.specs.Words.{kind, content}
use Rattle.records.specs.Journal.{has_end, month_start, this_month, posts, posted}
use Rattle.records.specs.declared.event.Event.{Event}
use Rattle.records.proofs.Months.{starts_first}

-- the word ends no month
abbrev goes_on : ℕ → Bool
goes_on w = not (eqb (kind w) 6)

-- some word before the first that ends a month begins an event like e
abbrev found : Event → List ℕ → Bool
found e ws = list_any (posts e) (take_while goes_on ws)

found_first : (e : Event) (w : ℕ) (ws : List ℕ) → found e (w ∷ ws) ≡ (goes_on w && (posts e w || found e ws))
found_first e w ws =
    let P : Bool → Type 0 = λ b. list_any (posts e) (cond b (w ∷ take_while goes_on ws) []) ≡ (b && (posts e w || found e ws)) in
    ap (list_any (posts e)) (take_while-cons goes_on w ws) ∙ elim (goes_on w) as P [ true ↦ refl | false ↦ refl ]

alone : (on posts : Bool) → (on && (posts || false)) ≡ (on && posts)
alone true true = refl
alone true false = refl
alone false posts = refl

regroup : (on posts found all more : Bool) → (on && (posts || (found || (all && more)))) ≡ ((on && (posts || found)) || (on && all && more))
regroup true true found all more = refl
regroup true false found all more = refl
regroup false posts found all more = refl

found_push : (e : Event) (ws : List ℕ) (w : ℕ) → found e (ws ++ w ∷ []) ≡ (found e ws || (list_all goes_on ws && (goes_on w && posts e w)))
found_push e [] w = found_first e w [] ∙ alone (goes_on w) (posts e w)
found_push e (x ∷ ws) w =
    found_first e x (ws ++ w ∷ [])
    ∙ (ap (λ b. goes_on x && (posts e x || b)) (found_push e ws w)
    ∙ (regroup (goes_on x) (posts e x) (found e ws) (list_all goes_on ws) (goes_on w && posts e w)
    ∙ ap (λ b. b || (goes_on x && list_all goes_on ws && (goes_on w && posts e w))) (sym (found_first e x ws))))

neither : (ends end : Bool) → (not ends && (not end && true)) ≡ not (end || ends)
neither true true = refl
neither true false = refl
neither false true = refl
neither false false = refl

all_back : (ws : List ℕ) → list_all goes_on (reverse ws) ≡ not (has_end ws)
all_back [] = refl
all_back (w ∷ ws) =
    ap (list_all goes_on) (reverse_onto ws w [])
    ∙ (list_all-append goes_on (reverse ws) (w ∷ [])
    ∙ (ap (λ b. b && (goes_on w && true)) (all_back ws) ∙ neither (has_end ws) (eqb (kind w) 6)))

or_none : (a : Bool) → (a || false) ≡ a
or_none true = refl
or_none false = refl

or_swap : (a b : Bool) → (a || b) ≡ (b || a)
or_swap true true = refl
or_swap true false = refl
or_swap false true = refl
or_swap false false = refl

-- one word more at the front, which ends a month or does not
turn : (e : Event) (w : ℕ) (ws : List ℕ) (ends end : Bool) → (ends ≡ false → month_start ws ≡ 0) →
    (posted e (drop (month_start ws) ws) || (not ends && (not end && posts e w))) ≡ posted e (drop (cond (end || ends) (suc (month_start ws)) 0) (w ∷ ws))
turn e w ws true true h = or_none _
turn e w ws true false h = or_none _
turn e w ws false true h = or_none _
turn e w ws false false h = or_swap _ (posts e w) ∙ ap (λ n. posts e w || posted e (drop n ws)) (h refl)

found_back : (e : Event) (ws : List ℕ) → found e (reverse ws) ≡ posted e (this_month ws)
found_back e [] = refl
found_back e (w ∷ ws) =
    ap (found e) (reverse_onto ws w [])
    ∙ (found_push e (reverse ws) w
    ∙ (ap (λ b. b || (list_all goes_on (reverse ws) && (goes_on w && posts e w))) (found_back e ws)
    ∙ (ap (λ b. posted e (this_month ws) || (b && (goes_on w && posts e w))) (all_back ws)
    ∙ turn e w ws (has_end ws) (eqb (kind w) 6) (starts_first ws))))

-- the word ends a month, or begins an event like e
abbrev pub decides : Event → ℕ → Bool
decides e w = eqb (kind w) 6 || posts e w

abbrev pub is_posted : Event → Option ℕ → Bool
is_posted e None = false
is_posted e (Some w) = posts e w

end_posts_none : (e : Event) (w : ℕ) → kind w ≡ 6 → posts e w ≡ false
end_posts_none e w k =
    ap (λ n. (eqb n 1 || eqb n 2) && (eqb (content w / 524_288) e.party && (eqb (content w / 16_384 % 32) e.service && eqb (content w % 16_384) e.slot))) k

pick : (e : Event) (w : ℕ) (rest : Option ℕ) (end posts_it f : Bool) → posts_it ≡ posts e w → (end ≡ true → posts_it ≡ false) → is_posted e rest ≡ f →
    is_posted e (cond (end || posts_it) (Some w) rest) ≡ (not end && (posts_it || f))
pick e w rest true posts_it f q h r = sym q ∙ h refl
pick e w rest false true f q h r = sym q
pick e w rest false false f q h r = r

-- the first word that decides is such an event, or ends the month
decided : (e : Event) (ws : List ℕ) → is_posted e (find (decides e) ws) ≡ found e ws
decided e [] = refl
decided e (w ∷ ws) =
    pick e w (find (decides e) ws) (eqb (kind w) 6) (posts e w) (found e ws) refl (λ t. let k : kind w ≡ 6 = search (rules, tests) in end_posts_none e w k) (decided e ws)
    ∙ sym (found_first e w ws)

-- the same, from the last word back
pub decided_back : (e : Event) (ws : List ℕ) → is_posted e (find (decides e) (reverse ws)) ≡ posted e (this_month ws)
decided_back e ws = decided e (reverse ws) ∙ found_back e ws
