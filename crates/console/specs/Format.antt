-- The text of a command. Assumes nothing.
use Rattle.std.specs.Prelude.{◌≡◌, ℕ, ◌+◌, ◌-◌, ◌*◌, Bool, true, false, cond, List, [], ◌∷◌, length, ℤ, pos, neg_ℤ, Some, None, Option, ◌==◌, nat_le}
use Rattle.std.specs.Char.{is_ascii_digit}
use Rattle.std.specs.Option.{option_map}
use Rattle.console.specs.declared.command.Command.{Command}
use Rattle.console.specs.declared.command.Command.TheVariants as command
use Rattle.console.specs.Choices.{choice_of}

abbrev pub is_empty : List ℕ → Bool
is_empty [] = true
is_empty (c ∷ cs) = false

-- the byte is not first
abbrev pub Lacks : ℕ → List ℕ → Type 0
Lacks b [] = Unit {0}
Lacks b (c ∷ cs) = c ≡ b → ⊥

-- the byte is first, and is taken; else nothing is
abbrev pub Took : ℕ → List ℕ → Option (Unit {0}) → List ℕ → Type 0
Took b xs (Some _) ys = xs ≡ b ∷ ys
Took b xs None ys = Lacks b xs × (ys ≡ xs)

-- no digit is first
abbrev pub LacksDigit : List ℕ → Type 0
LacksDigit [] = Unit {0}
LacksDigit (c ∷ cs) = is_ascii_digit c ≡ false

-- what a way of reading finds at the front of a text: nothing, or a value and what is left
abbrev pub Reads : {A : Type 0} → (List ℕ → Option (A × List ℕ)) → List ℕ → Option A → List ℕ → Type 0
Reads w xs None ys = w xs ≡ None
Reads w xs (Some a) ys = w xs ≡ Some (a, ys)

abbrev pub and_then : {A B : Type 0} → Option (A × List ℕ) → (A → List ℕ → Option (B × List ℕ)) → Option (B × List ℕ)
and_then None k = None
and_then (Some p) k = k p.0 p.1

abbrev pub ended : ℕ → ℕ → List ℕ → Option (ℕ × List ℕ)
ended room n rest = cond (room == 9) None (Some (n, rest))

-- the digits at the front, after the number n of those before, with room for `room` more of nine
abbrev pub numeral : ℕ → ℕ → List ℕ → Option (ℕ × List ℕ)
numeral room n [] = ended room n []
numeral room n (c ∷ cs) =
    cond (is_ascii_digit c) (cond (room == 0) None (numeral (room - 1) (n * 10 + (c - 48)) cs)) (ended room n (c ∷ cs))

abbrev pub unsigned : List ℕ → Option (ℕ × List ℕ)
unsigned [] = None
unsigned (c ∷ cs) = cond (c == 32) (numeral 9 0 cs) None

abbrev pub negated : Option (ℕ × List ℕ) → Option (ℤ × List ℕ)
negated r = and_then r (λ n rest. Some (neg_ℤ (pos n), rest))

abbrev pub plain : Option (ℕ × List ℕ) → Option (ℤ × List ℕ)
plain r = and_then r (λ n rest. Some (pos n, rest))

abbrev pub signedAt : List ℕ → Option (ℤ × List ℕ)
signedAt [] = None
signedAt (c ∷ cs) = cond (c == 45) (negated (numeral 9 0 cs)) (plain (numeral 9 0 (c ∷ cs)))

abbrev pub signed : List ℕ → Option (ℤ × List ℕ)
signed [] = None
signed (c ∷ cs) = cond (c == 32) (signedAt cs) None

abbrev pub chosen : ℕ → ℕ → ℕ → List ℕ → Option (Command × List ℕ)
chosen year month n rest = option_map (λ choice. (command.New year month choice, rest)) (choice_of n)

abbrev pub new : List ℕ → Option (Command × List ℕ)
new xs = and_then (unsigned xs) (λ year ys. and_then (unsigned ys) (λ month zs. and_then (unsigned zs) (chosen year month)))

abbrev pub enrol : List ℕ → Option (Command × List ℕ)
enrol xs =
    and_then (unsigned xs) (λ number ys. and_then (unsigned ys) (λ kind zs. and_then (unsigned zs) (λ capacity rest.
    Some (command.Enrol number kind capacity, rest))))

abbrev pub meter : List ℕ → Option (Command × List ℕ)
meter xs =
    and_then (unsigned xs) (λ party ys. and_then (unsigned ys) (λ slot zs. and_then (signed zs) (λ power rest.
    Some (command.Read (record { party = party; slot = slot; power = power }), rest))))

abbrev pub event : List ℕ → Option (Command × List ℕ)
event xs =
    and_then (unsigned xs) (λ party ys. and_then (unsigned ys) (λ service zs. and_then (unsigned zs) (λ slot us.
    and_then (signed us) (λ x vs. and_then (signed vs) (λ y rest. Some (command.Post (record { party = party; service = service; slot = slot; x = x; y = y }), rest))))))

abbrev pub flagged : ℕ → ℕ → List ℕ → Option (Command × List ℕ)
flagged place value rest =
    cond (value == 1) (Some (command.Answer place true, rest))
    (cond (value == 0) (Some (command.Answer place false, rest)) None)

abbrev pub answer : List ℕ → Option (Command × List ℕ)
answer xs = and_then (unsigned xs) (λ place ys. and_then (unsigned ys) (flagged place))

-- a command that holds one number
abbrev pub single : (ℕ → Command) → List ℕ → Option (Command × List ℕ)
single make xs = and_then (unsigned xs) (λ n rest. Some (make n, rest))

-- what follows the letter
abbrev pub body : ℕ → List ℕ → Option (Command × List ℕ)
body letter xs =
    cond (letter == 78) (new xs)
    (cond (letter == 69) (enrol xs)
    (cond (letter == 82) (meter xs)
    (cond (letter == 86) (event xs)
    (cond (letter == 70) (single command.PayIn xs)
    (cond (letter == 80) (Some (command.Publish, xs))
    (cond (letter == 79) (single command.Object xs)
    (cond (letter == 65) (answer xs)
    (cond (letter == 84) (single command.WhatIf xs)
    (cond (letter == 81) (single command.AccountSums xs)
    (cond (letter == 83) (Some (command.Settle, xs)) None))))))))))

-- with nothing after it
abbrev pub whole : Option (Command × List ℕ) → Option Command
whole None = None
whole (Some p) = cond (is_empty p.1) (Some p.0) None

abbrev pub lettered : List ℕ → Option Command
lettered [] = None
lettered (c ∷ cs) = whole (body c cs)

abbrev pub parsed : List ℕ → Option Command
parsed line = cond (nat_le (length line) 64) (lettered line) None
