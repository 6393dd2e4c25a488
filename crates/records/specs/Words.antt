-- The journal's words of 32 bits: the top three bits are a word's kind, the low 29 its content. Assumes nothing.
use Rattle.std.specs.Prelude.{◌≡◌, ℕ, ◌+◌, ◌*◌, ◌/◌, ◌%◌, ◌<◌, ◌≤◌, Bool, ◌&&◌, List, [], ◌∷◌, ℤ, pos, ◌+ℤ◌, ◌-ℤ◌, nat_le, slice_index, unsigned_abs}
use Rattle.records.specs.declared.event.Event.{Event}
use Rattle.records.specs.declared.event.WordKind.{WordKind}
use Rattle.records.specs.declared.event.WordKind.TheVariants.{Standing, Struck, First, Second, PaidIn, MonthEnd}

-- the kind: 1 an event, 2 a struck event, 3 and 4 an event's quantities, 5 money paid in, 6 a month's end
abbrev pub kind : ℕ → ℕ
kind w = w / 536_870_912

-- the number of a kind
abbrev pub kind_number : WordKind → ℕ
kind_number Standing = 1
kind_number Struck = 2
kind_number First = 3
kind_number Second = 4
kind_number PaidIn = 5
kind_number MonthEnd = 6

-- the content
abbrev pub content : ℕ → ℕ
content w = w % 536_870_912

-- the word of a kind and a content
abbrev pub word : ℕ → ℕ → ℕ
word k c = k * 536_870_912 + c

-- a quantity as content, and back
abbrev pub shifted : ℤ → ℕ
shifted x = unsigned_abs (x +ℤ pos 268_435_456)

abbrev pub quantity : ℕ → ℤ
quantity w = pos (content w) -ℤ pos 268_435_456

-- the words that an event is written in
abbrev pub event_words : Event → List ℕ
event_words e =
    word 1 (e.party * 524_288 + e.service * 16_384 + e.slot) ∷ word 3 (shifted e.x) ∷ word 4 (shifted e.y) ∷ []

-- the event that three words hold
abbrev pub event_in : (head second third : ℕ) → Event
event_in head second third = record {
  party = content head / 524_288;
  service = content head / 16_384 % 32;
  slot = content head % 16_384;
  x = quantity second;
  y = quantity third;
}

-- each figure of the event has its place in the words
unfoldable pub encodable : Event → Bool
encodable e =
    (nat_le e.party 1023 && (nat_le e.service 31 && nat_le e.slot 16_383))
    && (nat_le (unsigned_abs e.x) 4_000_000 && nat_le (unsigned_abs e.y) 4_000_000)

-- the same as limits
pub record Sizes (e : Event) : Type 0 where
  pub party : e.party ≤ 1023
  pub service : e.service ≤ 31
  pub slot : e.slot ≤ 16_383
  pub x : unsigned_abs e.x ≤ 4_000_000
  pub y : unsigned_abs e.y ≤ 4_000_000

-- Three words are a standing event's, and are read as that event.
pub record ReadBack (e : Event) (head second third : ℕ) : Type 0 where
  pub event : event_in head second third ≡ e
  pub stands : kind head ≡ 1
  pub first : kind second ≡ 3
  pub last : kind third ≡ 4

-- The words that an event is written in are read back as the event.
abbrev pub RoundTrip : Type 0
RoundTrip = (e : Event) → Sizes e → ReadBack e (slice_index (event_words e) 0) (slice_index (event_words e) 1) (slice_index (event_words e) 2)

-- The word of a kind and a content is read back as both.
abbrev pub WordReadBack : Type 0
WordReadBack = (k c : ℕ) → c < 536_870_912 → (kind (word k c) ≡ k) × (content (word k c) ≡ c)
