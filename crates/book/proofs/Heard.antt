-- A call that the state allows adds one entry, and any other adds none. Assumes nothing.
use Rattle.std.proofs.Common.{◌≡◌, ℕ, ◌≤◌, true, cond, List, [], ◌∷◌, length, take, None, Ok, Err, Result, sym, refl, ap, ◌∙◌, subst, append-nil, arith}
use Rattle.std.proofs.lemmas.Bool.{both_ways, ltb-false}
use Rattle.std.proofs.lemmas.List.{length-take}
use Rattle.std.specs.Result.{MatchResult, IsOkAnd}
use Rattle.rules.specs.Answers.{Rulebook}
use Rattle.billing.specs.declared.bill.Bill.{Bill}
use Rattle.settlement.specs.Book.{Book, State, Room}
use Rattle.settlement.specs.Checks.{first_of}
use Rattle.settlement.specs.Settling.{settle_checks}
use Rattle.book.proofs.Keeping.{clear}
use Rattle.settlement.specs.Lent.{Beyond, Left}
use Rattle.settlement.specs.declared.memory.Memory.{Memory}
use Rattle.book.specs.declared.call.Call.{Call}
use Rattle.book.specs.declared.answer.Reply.{Reply}
use Rattle.book.specs.declared.answer.Denial.{Denial}
use Rattle.book.specs.declared.answer.Denial.TheVariants.{Refused}
use Rattle.book.specs.declared.answer.Reply.TheVariants.{Done, Placed, Posted, Sums, Settled}
use Rattle.rules.specs.declared.refusal.Refusal.{Refusal}
use Rattle.settlement.specs.declared.posted.Posted.{Posted as PostedAt}
use Rattle.book.specs.Runs.{Entry, Step}
use Rattle.book.specs.Entries.{call_of, answer_of, rows_of, allows, given_as}
use Rattle.book.specs.Serving.{Served, used_in, MemoryLeft, SheetLeft}

pub heard : (means : Rulebook) (room : Room) (before : State) (call : Call) (answer : Result Reply Denial) (sheet : List Bill) (after : State) (e : Entry) →
    allows before call ≡ true → call_of e ≡ call → answer_of e ≡ answer → rows_of e ≡ take (length (rows_of e)) sheet → Step means room before e after →
    Served means room before call answer sheet after
heard means room before call answer sheet after e may asked told billed step = record {
  added = e ∷ [];
  calls = ap (λ c. c ∷ []) asked ∙ sym (ap (λ t. cond t (call ∷ []) []) may);
  answers = ap (λ a. a ∷ []) told ∙ sym (ap (λ t. cond t (answer ∷ []) []) may);
  turned_away = λ no. absurd (both_ways (allows before call) no may);
  billed = append-nil (rows_of e) ∙ (billed ∙ ap (λ rows. take (length rows) sheet) (sym (append-nil (rows_of e))));
  steps = (before, refl, step);
}

-- a reply, or the refusal
pub told : {A : Type 0} (reply : A → Reply) (gives : A → Reply → Type 0) → ((a : A) (b : Reply) → gives a b → b ≡ reply a) → (r : Result A Refusal) (answer : Result Reply Denial) →
    MatchResult r (λ a. IsOkAnd answer (gives a)) (λ e. answer ≡ Err (Refused e)) → given_as reply r ≡ answer
told reply gives same (Ok a) (Ok b) h = ap Ok (sym (same a b h))
told reply gives same (Ok a) (Err e) h = absurd h
told reply gives same (Err e) answer h = sym h

pub beyond_same : (used : ℕ) (m : Memory) → Beyond used m m
beyond_same used m = record {
  lent = refl;
  words = refl;
  long = refl;
  roster = record { lent = refl; long = refl; beyond = λ n p q. refl };
  objections = record { lent = refl; long = refl; beyond = λ n p q. refl };
}

-- what is left of the memory and of the sheet
pub left_done : (r : Result (Unit {0}) Refusal) (after : State) (m m' : Memory) → Left r (used_in after) m m' → MemoryLeft (given_as (λ _. Done) r) after m m'
left_done (Ok _) after m m' h = h
left_done (Err _) after m m' h = h

pub left_placed : (r : Result ℕ Refusal) (after : State) (m m' : Memory) → Left r (used_in after) m m' → MemoryLeft (given_as Placed r) after m m'
left_placed (Ok _) after m m' h = h
left_placed (Err _) after m m' h = h

pub left_posted : (r : Result PostedAt Refusal) (after : State) (m m' : Memory) → Left r (used_in after) m m' → MemoryLeft (given_as Posted r) after m m'
left_posted (Ok _) after m m' h = h
left_posted (Err _) after m m' h = h

pub left_sums : (r : Result (List ℕ) Refusal) (after : State) (m m' : Memory) → m' ≡ m → MemoryLeft (given_as Sums r) after m m'
left_sums (Ok _) after m m' h = h
left_sums (Err _) after m m' h = h

pub sheet_same : (a : Result Reply Denial) (s : List Bill) → SheetLeft a s s
sheet_same (Ok Done) s = refl
sheet_same (Ok (Placed _)) s = refl
sheet_same (Ok (Posted _)) s = refl
sheet_same (Ok (Sums _)) s = refl
sheet_same (Ok (Settled _)) s = (refl, refl)
sheet_same (Err _) s = refl

-- a sheet that is not short has a row for each party
pub rows_taken : (n : ℕ) (room : Room) (b : Book) (sheet : List Bill) → first_of (settle_checks room b) ≡ None → n ≡ length b.lines → length sheet ≡ room.sheet →
    length (take n sheet) ≡ n
rows_taken n room b sheet free is long =
    let enough : length b.lines ≤ room.sheet = ltb-false room.sheet (length b.lines) (clear (settle_checks room b) free).1.1.1.0 in
    omega (arith, length-take n sheet, enough, is, long)
