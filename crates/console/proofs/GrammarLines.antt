-- A line is read as a command just where it is a text of it. Assumes nothing.
use Rattle.std.proofs.Common.{◌≡◌, ℕ, true, false, cond, eqb, leb, List, [], ◌∷◌, length, Some, None, Option, sym, refl, ap, ◌∙◌, subst, ⊎_elim, eqb-true, le-leb, leb-true}
use Rattle.console.specs.declared.command.Command.{Command}
use Rattle.console.specs.declared.command.Command.TheVariants.{New, Enrol, Read, Post, PayIn, Publish, Object, Answer, WhatIf, AccountSums, Settle}
use Rattle.console.specs.declared.choice.Choice.{Choice}
use Rattle.console.specs.declared.choice.Choice.TheVariants.{First, Second}
use Rattle.console.specs.Choices.{choice_of}
use Rattle.std.specs.Option.{option_map}
use Rattle.console.specs.Format.{unsigned, signed, new, enrol, meter, event, answer, single, body, whole, lettered, parsed}
use Rattle.console.specs.Grammar.{plain, net, Fields, choice_number, letter, fields, Text}
use Rattle.console.proofs.GrammarFields.{then_is, way, none_is, read_plain, read_net, plain_read, net_read}

-- a text of the command is read
complete : (c : Command) (xs : List ℕ) → Fields (fields c) xs → body (letter c) xs ≡ Some (c, [])
complete (New y m First) xs t =
    let f0 = read_plain y (plain m ∷ plain 1 ∷ []) xs t in
    let f1 = read_plain m (plain 1 ∷ []) f0.0 f0.2 in
    let f2 = read_plain 1 [] f1.0 f1.2 in
    simp (f0.1, f1.1, f2.1, f2.2)
complete (New y m Second) xs t =
    let f0 = read_plain y (plain m ∷ plain 2 ∷ []) xs t in
    let f1 = read_plain m (plain 2 ∷ []) f0.0 f0.2 in
    let f2 = read_plain 2 [] f1.0 f1.2 in
    simp (f0.1, f1.1, f2.1, f2.2)
complete (Enrol n k p) xs t =
    let f0 = read_plain n (plain k ∷ plain p ∷ []) xs t in
    let f1 = read_plain k (plain p ∷ []) f0.0 f0.2 in
    let f2 = read_plain p [] f1.0 f1.2 in
    simp (f0.1, f1.1, f2.1, f2.2)
complete (Read r) xs t =
    let f0 = read_plain r.party (plain r.slot ∷ net r.power ∷ []) xs t in
    let f1 = read_plain r.slot (net r.power ∷ []) f0.0 f0.2 in
    let f2 = read_net r.power [] f1.0 f1.2 in
    simp (f0.1, f1.1, f2.1, f2.2)
complete (Post e) xs t =
    let f0 = read_plain e.party (plain e.service ∷ plain e.slot ∷ net e.x ∷ net e.y ∷ []) xs t in
    let f1 = read_plain e.service (plain e.slot ∷ net e.x ∷ net e.y ∷ []) f0.0 f0.2 in
    let f2 = read_plain e.slot (net e.x ∷ net e.y ∷ []) f1.0 f1.2 in
    let f3 = read_net e.x (net e.y ∷ []) f2.0 f2.2 in
    let f4 = read_net e.y [] f3.0 f3.2 in
    simp (f0.1, f1.1, f2.1, f3.1, f4.1, f4.2)
complete (PayIn n) xs t =
    let f0 = read_plain n [] xs t in
    simp (f0.1, f0.2)
complete Publish xs t = ap (λ r. Some (Publish, r)) t
complete (Object n) xs t =
    let f0 = read_plain n [] xs t in
    simp (f0.1, f0.2)
complete (Answer n true) xs t =
    let f0 = read_plain n (plain 1 ∷ []) xs t in
    let f1 = read_plain 1 [] f0.0 f0.2 in
    simp (f0.1, f1.1, f1.2)
complete (Answer n false) xs t =
    let f0 = read_plain n (plain 0 ∷ []) xs t in
    let f1 = read_plain 0 [] f0.0 f0.2 in
    simp (f0.1, f1.1, f1.2)
complete (WhatIf n) xs t =
    let f0 = read_plain n [] xs t in
    simp (f0.1, f0.2)
complete (AccountSums n) xs t =
    let f0 = read_plain n [] xs t in
    simp (f0.1, f0.2)
complete Settle xs t = ap (λ r. Some (Settle, r)) t

-- what is read is a text of the command
abbrev Good : ℕ → List ℕ → Command → Type 0
Good l xs c = (letter c ≡ l) × Fields (fields c) xs

pair_is : {A : Type 0} (p q : A) → ◌≡◌ {A = Option A} (Some p) (Some q) → p ≡ q
pair_is p q e = cc

made_is : (l : ℕ) (xs ys : List ℕ) (made c : Command) → ◌≡◌ {A = Option (Command × List ℕ)} (Some (made, ys)) (Some (c, [])) → letter made ≡ l
    → (ys ≡ [] → Fields (fields made) xs) → Good l xs c
made_is l xs ys made c e k f =
    let q = pair_is (made, ys) (c, []) e in
    subst (Good l xs) (ap (λ (u : Command × List ℕ). u.0) q) (k, f (ap (λ (u : Command × List ℕ). u.1) q))

enrol_is : (xs : List ℕ) (c : Command) → enrol xs ≡ Some (c, []) → Good 69 xs c
enrol_is xs c e =
    let f0 = then_is (unsigned xs) _ (c, []) e in
    let f1 = then_is (unsigned f0.0.1) _ (c, []) f0.2 in
    let f2 = then_is (unsigned f1.0.1) _ (c, []) f1.2 in
    let f0e = f0.1 in
    let f1e = f1.1 in
    let f2e = f2.1 in
    made_is 69 xs f2.0.1 (Enrol f0.0.0 f1.0.0 f2.0.0) c f2.2 refl (λ z. (plain_read f0.0.0 (plain f1.0.0 ∷ plain f2.0.0 ∷ []) xs f0.0.1 f0e (plain_read f1.0.0 (plain f2.0.0 ∷ []) f0.0.1 f1.0.1 f1e (plain_read f2.0.0 [] f1.0.1 f2.0.1 f2e z))))

meter_is : (xs : List ℕ) (c : Command) → meter xs ≡ Some (c, []) → Good 82 xs c
meter_is xs c e =
    let f0 = then_is (unsigned xs) _ (c, []) e in
    let f1 = then_is (unsigned f0.0.1) _ (c, []) f0.2 in
    let f2 = then_is (signed f1.0.1) _ (c, []) f1.2 in
    let f0e = f0.1 in
    let f1e = f1.1 in
    let f2e = f2.1 in
    made_is 82 xs f2.0.1 (Read (record { party = f0.0.0; slot = f1.0.0; power = f2.0.0 })) c f2.2 refl (λ z. (plain_read f0.0.0 (plain f1.0.0 ∷ net f2.0.0 ∷ []) xs f0.0.1 f0e (plain_read f1.0.0 (net f2.0.0 ∷ []) f0.0.1 f1.0.1 f1e (net_read f2.0.0 [] f1.0.1 f2.0.1 f2e z))))

event_is : (xs : List ℕ) (c : Command) → event xs ≡ Some (c, []) → Good 86 xs c
event_is xs c e =
    let f0 = then_is (unsigned xs) _ (c, []) e in
    let f1 = then_is (unsigned f0.0.1) _ (c, []) f0.2 in
    let f2 = then_is (unsigned f1.0.1) _ (c, []) f1.2 in
    let f3 = then_is (signed f2.0.1) _ (c, []) f2.2 in
    let f4 = then_is (signed f3.0.1) _ (c, []) f3.2 in
    let f0e = f0.1 in
    let f1e = f1.1 in
    let f2e = f2.1 in
    let f3e = f3.1 in
    let f4e = f4.1 in
    made_is 86 xs f4.0.1 (Post (record { party = f0.0.0; service = f1.0.0; slot = f2.0.0; x = f3.0.0; y = f4.0.0 })) c f4.2 refl (λ z. (plain_read f0.0.0 (plain f1.0.0 ∷ plain f2.0.0 ∷ net f3.0.0 ∷ net f4.0.0 ∷ []) xs f0.0.1 f0e (plain_read f1.0.0 (plain f2.0.0 ∷ net f3.0.0 ∷ net f4.0.0 ∷ []) f0.0.1 f1.0.1 f1e (plain_read f2.0.0 (net f3.0.0 ∷ net f4.0.0 ∷ []) f1.0.1 f2.0.1 f2e (net_read f3.0.0 (net f4.0.0 ∷ []) f2.0.1 f3.0.1 f3e (net_read f4.0.0 [] f3.0.1 f4.0.1 f4e z))))))

single_is : (l : ℕ) (make : ℕ → Command) → ((n : ℕ) → letter (make n) ≡ l) → ((n : ℕ) → fields (make n) ≡ plain n ∷ []) →
    (xs : List ℕ) (c : Command) → single make xs ≡ Some (c, []) → Good l xs c
single_is l make at has xs c e =
    let f0 = then_is (unsigned xs) _ (c, []) e in
    made_is l xs f0.0.1 (make f0.0.0) c f0.2 (at f0.0.0) (λ z. subst (λ fs. Fields fs xs) (sym (has f0.0.0)) (plain_read f0.0.0 [] xs f0.0.1 f0.1 z))

f_at : (xs : List ℕ) (p : ℕ × List ℕ) (n : ℕ) → unsigned xs ≡ Some p → p.0 ≡ n → unsigned xs ≡ Some (n, p.1)
f_at xs p n e q = e ∙ ap (λ m. Some (m, p.1)) q

number_of_choice : (n : ℕ) (c : Choice) → choice_of n ≡ Some c → n ≡ choice_number c
number_of_choice n c e =
    ⊎_elim (λ w. eqb-true n 1 w.0 ∙ ap choice_number (pair_is First c w.1))
    (λ v. ⊎_elim (λ w. eqb-true n 2 w.0 ∙ ap choice_number (pair_is Second c w.1)) (λ w. absurd (none_is c w.1)) (way (eqb n 2) (Some Second) None c v.1))
    (way (eqb n 1) (Some First) _ c e)

mapped_is : {A B : Type 0} (f : A → B) (o : Option A) (r : B) → option_map f o ≡ Some r → (a : A) × (o ≡ Some a) × (f a ≡ r)
mapped_is f None r e = absurd (none_is r e)
mapped_is f (Some a) r e = (a, refl, pair_is (f a) r e)

new_is : (xs : List ℕ) (c : Command) → new xs ≡ Some (c, []) → Good 78 xs c
new_is xs c e =
    let f0 = then_is (unsigned xs) _ (c, []) e in
    let f1 = then_is (unsigned f0.0.1) _ (c, []) f0.2 in
    let f2 = then_is (unsigned f1.0.1) _ (c, []) f1.2 in
    let m = mapped_is _ (choice_of f2.0.0) (c, []) f2.2 in
    let f2e = f_at f1.0.1 f2.0 (choice_number m.0) f2.1 (number_of_choice f2.0.0 m.0 m.1) in
    made_is 78 xs f2.0.1 (New f0.0.0 f1.0.0 m.0) c (ap Some m.2) refl
    (λ z. plain_read f0.0.0 (plain f1.0.0 ∷ plain (choice_number m.0) ∷ []) xs f0.0.1 f0.1
    (plain_read f1.0.0 (plain (choice_number m.0) ∷ []) f0.0.1 f1.0.1 f1.1 (plain_read (choice_number m.0) [] f1.0.1 f2.0.1 f2e z)))

answer_is : (xs : List ℕ) (c : Command) → answer xs ≡ Some (c, []) → Good 65 xs c
answer_is xs c e =
    let f0 = then_is (unsigned xs) _ (c, []) e in
    let f1 = then_is (unsigned f0.0.1) _ (c, []) f0.2 in
    let f0e = f0.1 in
    ⊎_elim
    (λ w.
    let f1e = f_at f0.0.1 f1.0 1 f1.1 (eqb-true f1.0.0 1 w.0) in
    made_is 65 xs f1.0.1 (Answer f0.0.0 true) c w.1 refl (λ z. (plain_read f0.0.0 (plain 1 ∷ []) xs f0.0.1 f0e (plain_read 1 [] f0.0.1 f1.0.1 f1e z))))
    (λ v. ⊎_elim
    (λ w.
    let f1e = f_at f0.0.1 f1.0 0 f1.1 (eqb-true f1.0.0 0 w.0) in
    made_is 65 xs f1.0.1 (Answer f0.0.0 false) c w.1 refl (λ z. (plain_read f0.0.0 (plain 0 ∷ []) xs f0.0.1 f0e (plain_read 0 [] f0.0.1 f1.0.1 f1e z))))
    (λ w. absurd (none_is (c, []) w.1))
    (way (eqb f1.0.0 0) (Some (Answer f0.0.0 false, f1.0.1)) None (c, []) v.1))
    (way (eqb f1.0.0 1) (Some (Answer f0.0.0 true, f1.0.1)) _ (c, []) f1.2)

letter_way : (l k : ℕ) (x y : Option (Command × List ℕ)) (xs : List ℕ) (c : Command) → cond (eqb l k) x y ≡ Some (c, [])
    → (x ≡ Some (c, []) → Good k xs c) → (y ≡ Some (c, []) → Good l xs c) → Good l xs c
letter_way l k x y xs c e f g =
    let P : ℕ → Type 0 = λ m. Good m xs c in
    ⊎_elim (λ w. subst P (sym (eqb-true l k w.0)) (f w.1)) (λ w. g w.1) (way (eqb l k) x y (c, []) e)

sound : (l : ℕ) (xs : List ℕ) (c : Command) → body l xs ≡ Some (c, []) → Good l xs c
sound l xs c e =
    letter_way l 78 (new xs) _ xs c e (new_is xs c)
    (λ e. letter_way l 69 (enrol xs) _ xs c e (enrol_is xs c)
    (λ e. letter_way l 82 (meter xs) _ xs c e (meter_is xs c)
    (λ e. letter_way l 86 (event xs) _ xs c e (event_is xs c)
    (λ e. letter_way l 70 (single PayIn xs) _ xs c e (single_is 70 PayIn (λ _. refl) (λ _. refl) xs c)
    (λ e. letter_way l 80 (Some (Publish, xs)) _ xs c e (λ q. made_is 80 xs xs Publish c q refl (λ z. z))
    (λ e. letter_way l 79 (single Object xs) _ xs c e (single_is 79 Object (λ _. refl) (λ _. refl) xs c)
    (λ e. letter_way l 65 (answer xs) _ xs c e (answer_is xs c)
    (λ e. letter_way l 84 (single WhatIf xs) _ xs c e (single_is 84 WhatIf (λ _. refl) (λ _. refl) xs c)
    (λ e. letter_way l 81 (single AccountSums xs) _ xs c e (single_is 81 AccountSums (λ _. refl) (λ _. refl) xs c)
    (λ e. letter_way l 83 (Some (Settle, xs)) _ xs c e (λ q. made_is 83 xs xs Settle c q refl (λ z. z))
    (λ e. absurd (none_is (c, []) e))))))))))))

whole_is : (o : Option (Command × List ℕ)) (c : Command) → whole o ≡ Some c → o ≡ Some (c, [])
whole_is None c e = absurd (none_is c e)
whole_is (Some (d, [])) c e = ap (λ x. Some (x, [])) (pair_is d c e)
whole_is (Some (d, x ∷ xs)) c e = absurd (none_is c e)

lettered_is : (line : List ℕ) (c : Command) → lettered line ≡ Some c → (rest : List ℕ) × (line ≡ letter c ∷ rest) × Fields (fields c) rest
lettered_is [] c e = absurd (none_is c e)
lettered_is (l ∷ xs) c e =
    let g = sound l xs c (whole_is (body l xs) c e) in
    (xs, ap (λ m. m ∷ xs) (sym g.0), g.1)

-- a line is read as a command just where it is a text of it
pub parsed_is : (line : List ℕ) (c : Command) → parsed line ≡ Some c → Text c line
parsed_is line c e =
    ⊎_elim (λ w. (leb-true (length line) 64 w.0, lettered_is line c w.1)) (λ w. absurd (none_is c w.1))
    (way (leb (length line) 64) (lettered line) None c e)

pub is_parsed : (line : List ℕ) (c : Command) → Text c line → parsed line ≡ Some c
is_parsed line c t =
    let short = le-leb (length line) 64 t.0 in
    simp short (ap lettered t.1.1 ∙ ap whole (complete c t.1.0 t.1.2))
