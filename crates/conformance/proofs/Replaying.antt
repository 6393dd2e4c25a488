-- A replay, line by line. Assumes nothing.
use Rattle.std.proofs.Common.{◌≡◌, ℕ, ◌+◌, ◌≤◌, Bool, true, false, eqb, List, [], ◌∷◌, ◌++◌, length, take, Some, None, Option, sym, refl, ap, ◌∙◌, subst, ⊎_elim, true≢false, arith, Bor}
use Rattle.std.proofs.lemmas.List.{append_assoc, append_cancel_left, nil_from_length}
use Rattle.std.proofs.lemmas.Bool.{cases_Bool, eq-eqb, eqb-true, cond-true, cond-false}
use Rattle.console.specs.declared.office.Office.{Office}
use Rattle.console.specs.Offices.{Answers}
use Rattle.conformance.specs.Lines.{onto, lines}
use Rattle.conformance.specs.Replays.{before, Replay, ended, cramped, answered, Left, After, spent, Judged}

before_none : (more : Option (List ℕ)) → more ≡ before [] more
before_none None = refl
before_none (Some t) = refl

before_more : (s t : List ℕ) (more : Option (List ℕ)) → before s (before t more) ≡ before (s ++ t) more
before_more s t None = refl
before_more s t (Some u) = ap Some (sym (append_assoc s t u))

left_more : (expected s t : List ℕ) (left left' : Option (Bor (List ℕ))) → Left expected s left → After left t left' → Left expected (s ++ t) left'
left_more expected s t None None h a = λ rest e. h (t ++ rest) (e ∙ append_assoc s t rest)
left_more expected s t None (Some y) h a = absurd (grind arith)
left_more expected s t (Some x) None h a = λ rest e. a rest (append_cancel_left s _ _ (sym h ∙ e ∙ append_assoc s t rest))
left_more expected s t (Some x) (Some y) h a = h ∙ ap (λ l. s ++ l) a ∙ sym (append_assoc s t y.now)

-- What was answered so far leads from the office at the start to the one here, and the lines yielded from all of them to those left.
pub record SoFar (o : Office) (commands expected : List ℕ) (o' : Office) (rest : List (List ℕ)) (left : Option (Bor (List ℕ))) (n : ℕ) : Type 0 where
  pub given : List ℕ
  pub onward : (more : Option (List ℕ)) → Replay o' rest more → Replay o (lines commands) (before given more)
  pub unseen : Left expected given left
  pub count : n + length rest ≡ length (lines commands)

pub none_yet : (o : Office) (commands : List ℕ) (expected : Bor (List ℕ)) → SoFar o commands expected.now o (lines commands) (Some expected) 0
none_yet o commands expected = record {
  given = [];
  onward = λ more r. subst (Replay o (lines commands)) (before_none more) r;
  unseen = refl;
  count = omega arith;
}

module _ (o : Office) (commands expected : List ℕ) (o' o'' : Office)
    (line : List ℕ) (rest rest' : List (List ℕ)) (left : Option (Bor (List ℕ))) (n : ℕ)
    (cut : rest ≡ line ∷ rest') (so_far : SoFar o commands expected o' rest left n) where
  pub one_more : (left' : Option (Bor (List ℕ))) (long : ℕ) → Answers o' line (Some long) o'' → After left (take long o''.page.now) left'
      → SoFar o commands expected o'' rest' left' (n + 1)
  one_more left' long a after = record {
    given = so_far.given ++ take long o''.page.now;
    onward = λ more r. subst (Replay o (lines commands)) (before_more so_far.given (take long o''.page.now) more)
        (so_far.onward (before (take long o''.page.now) more) (subst (λ ls. Replay o' ls (before (take long o''.page.now) more)) (sym cut) (answered o'' a r)));
    unseen = left_more expected so_far.given (take long o''.page.now) left left' so_far.unseen after;
    count = let long-by = ap length cut in omega (arith, so_far.count);
  }

  pub no_room : Answers o' line None o'' → Judged o commands expected None
  no_room a = record {
    given = None;
    replay = so_far.onward None (subst (λ ls. Replay o' ls None) (sym cut) (cramped o'' a));
    verdict = refl;
  }

spent_is : (expected given : List ℕ) (left : Option (Bor (List ℕ))) → Left expected given left
    → (spent left ≡ true → given ++ [] ≡ expected) × (given ++ [] ≡ expected → spent left ≡ true)
spent_is expected given None h = ((λ e. absurd (true≢false (sym e))), λ e. absurd (h [] (sym e)))
spent_is expected given (Some x) h = (
  (λ e. sym (h ∙ ap (λ l. given ++ l) (nil_from_length x.now (eqb-true (length x.now) 0 e)))),
  λ e. eq-eqb (length x.now) 0 (ap length (append_cancel_left given _ _ (sym h ∙ sym e))),
)

pub all : (o : Office) (commands expected : List ℕ) (o' : Office) (rest : List (List ℕ)) (left : Option (Bor (List ℕ))) (n : ℕ) (agrees : Bool)
    → rest ≡ [] → agrees ≡ spent left → SoFar o commands expected o' rest left n → Judged o commands expected (Some (record { lines = n; agrees = agrees }))
all o commands expected o' rest left n agrees none is so_far =
    let says = spent_is expected so_far.given left so_far.unseen in
    record {
      given = Some (so_far.given ++ []);
      replay = so_far.onward (Some []) (subst (λ ls. Replay o' ls (Some [])) (sym none) ended);
      verdict = ((let long = ap length none in omega (arith, so_far.count)), (λ e. says.0 (sym is ∙ e)), λ e. is ∙ says.1 e);
    }

long_onto : (b : ℕ) (ls : List (List ℕ)) → length (onto b ls) ≤ 1 + length ls
long_onto b [] = omega arith
long_onto b (l ∷ ls) = omega arith

-- a text has no more lines than bytes
pub few_lines : (text : List ℕ) → length (lines text) ≤ length text
few_lines [] = omega arith
few_lines (b ∷ bs) = ⊎_elim
    (λ (e : eqb b 10 ≡ true). subst (λ ls. length ls ≤ length (b ∷ bs)) (sym (cond-true _ _ _ e)) (omega (arith, few_lines bs)))
    (λ (e : eqb b 10 ≡ false). subst (λ ls. length ls ≤ length (b ∷ bs)) (sym (cond-false _ _ _ e)) (omega (arith, few_lines bs, long_onto b (lines bs))))
    (cases_Bool (eqb b 10))
