-- The text of a command as a grammar: a letter, and then fields, each after one space. Assumes nothing.
use Rattle.std.specs.Prelude.{◌≡◌, ℕ, ◌+◌, ◌-◌, ◌*◌, ◌<◌, ◌≤◌, true, cond, ◌⊎◌, List, [], ◌∷◌, ◌++◌, length, ℤ, pos, neg_ℤ, Some, Option}
use Rattle.std.specs.Str.{all_ascii_digits}
use Rattle.console.specs.declared.command.Command.{Command}
use Rattle.console.specs.declared.command.Command.TheVariants.{New, Enrol, Read, Post, PayIn, Publish, Object, Answer, WhatIf, AccountSums, Settle}
use Rattle.console.specs.declared.choice.Choice.{Choice}
use Rattle.console.specs.declared.choice.Choice.TheVariants.{First, Second}

-- the number that digits write, after those of n
abbrev pub read_on : ℕ → List ℕ → ℕ
read_on n [] = n
read_on n (c ∷ cs) = read_on (n * 10 + (c - 48)) cs

-- ds is a text of n: one digit to nine
pub record Number (n : ℕ) (ds : List ℕ) : Type 0 where
  pub digits : all_ascii_digits ds ≡ true
  pub some : 0 < length ds
  pub few : length ds ≤ 9
  pub value : read_on 0 ds ≡ n

pub data Field : Type 0 where
  plain : ℕ → Field
  net : ℤ → Field

abbrev pub FieldText : Field → List ℕ → Type 0
FieldText (plain n) ds = Number n ds
FieldText (net z) ds =
    ((n : ℕ) × Number n ds × (z ≡ pos n))
    ⊎ ((n : ℕ) × (es : List ℕ) × (ds ≡ 45 ∷ es) × Number n es × (z ≡ neg_ℤ (pos n)))

abbrev pub Fields : List Field → List ℕ → Type 0
Fields [] rest = rest ≡ []
Fields (f ∷ fs) rest = (ds : List ℕ) × (more : List ℕ) × (rest ≡ 32 ∷ (ds ++ more)) × FieldText f ds × Fields fs more

abbrev pub choice_number : Choice → ℕ
choice_number First = 1
choice_number Second = 2

abbrev pub letter : Command → ℕ
letter (New y m p) = 78
letter (Enrol n k c) = 69
letter (Read r) = 82
letter (Post e) = 86
letter (PayIn amount) = 70
letter Publish = 80
letter (Object place) = 79
letter (Answer place u) = 65
letter (WhatIf place) = 84
letter (AccountSums party) = 81
letter Settle = 83

abbrev pub fields : Command → List Field
fields (New y m p) = plain y ∷ plain m ∷ plain (choice_number p) ∷ []
fields (Enrol n k c) = plain n ∷ plain k ∷ plain c ∷ []
fields (Read r) = plain r.party ∷ plain r.slot ∷ net r.power ∷ []
fields (Post e) = plain e.party ∷ plain e.service ∷ plain e.slot ∷ net e.x ∷ net e.y ∷ []
fields (PayIn amount) = plain amount ∷ []
fields Publish = []
fields (Object place) = plain place ∷ []
fields (Answer place u) = plain place ∷ plain (cond u 1 0) ∷ []
fields (WhatIf place) = plain place ∷ []
fields (AccountSums party) = plain party ∷ []
fields Settle = []

-- the line is a text of the command
abbrev pub Text : Command → List ℕ → Type 0
Text c line = (length line ≤ 64) × ((rest : List ℕ) × (line ≡ letter c ∷ rest) × Fields (fields c) rest)

-- r is the command that the line is a text of, and nothing where it is none's
abbrev pub Exactly : Option Command → List ℕ → Type 0
Exactly r line = (c : Command) → (r ≡ Some c → Text c line) × (Text c line → r ≡ Some c)
