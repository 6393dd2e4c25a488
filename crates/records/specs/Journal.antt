-- The used words of a journal, whatever they hold. Assumes nothing.
use Rattle.std.specs.Prelude.{◌≡◌, ℕ, suc, ◌+◌, ◌/◌, ◌%◌, ◌<◌, ◌≤◌, min, Bool, false, true, cond, ◌&&◌, ◌||◌, List, [], ◌∷◌, ◌++◌, length, take, drop, Some, None, Ok, Err, Option, Result, ◌==◌, nat_le, slice_index, slice_set}
use Rattle.rules.specs.declared.refusal.Refusal.{Refusal}
use Rattle.rules.specs.declared.refusal.Refusal.TheVariants.{JournalFull}
use Rattle.records.specs.declared.event.Event.{Event}
use Rattle.records.specs.declared.event.Mark.{Mark}
use Rattle.records.specs.declared.event.Mark.TheVariants.{Standing, Struck}
use Rattle.records.specs.Words.{kind, content, word, event_in}

-- some word ends a month
abbrev pub has_end : List ℕ → Bool
has_end [] = false
has_end (w ∷ ws) = kind w == 6 || has_end ws

-- the place of this month's first word: after the last month's end, or 0 where there is none
abbrev pub month_start : List ℕ → ℕ
month_start [] = 0
month_start (w ∷ ws) = cond (has_end (w ∷ ws)) (suc (month_start ws)) 0

-- this month's words
abbrev pub this_month : List ℕ → List ℕ
this_month ws = drop (month_start ws) ws

-- the place holds a word of this month, of the kind
abbrev pub kind_at : ℕ → ℕ → List ℕ → Bool
kind_at k place ws = nat_le (month_start ws) place && kind (slice_index ws place) == k

-- the event whose words begin at the place
abbrev pub event_at : ℕ → List ℕ → Event
event_at place ws = event_in (slice_index ws place) (slice_index ws (place + 1)) (slice_index ws (place + 2))

-- three words are a standing event
abbrev pub stands : (head second third : ℕ) → Bool
stands head second third = kind head == 1 && (kind second == 3 && kind third == 4)

-- a standing event of this month is at the place
abbrev pub standing_at : ℕ → List ℕ → Bool
standing_at place ws = nat_le (month_start ws) place && stands (slice_index ws place) (slice_index ws (place + 1)) (slice_index ws (place + 2))

-- the standing events among the words, in their order
abbrev pub standing_events : List ℕ → List Event
standing_events [] = []
standing_events (w ∷ ws) =
    cond (stands w (slice_index ws 0) (slice_index ws 1)) (event_in w (slice_index ws 0) (slice_index ws 1) ∷ standing_events ws) (standing_events ws)

-- the standing event that the words begin with
abbrev pub first_event : List ℕ → Option Event
first_event ws = cond (stands (slice_index ws 0) (slice_index ws 1) (slice_index ws 2)) (Some (event_at 0 ws)) None

-- the words with the event at the place struck: its first word turns from kind 1 to kind 2, and nothing else changes
abbrev pub struck : ℕ → List ℕ → List ℕ
struck place ws = slice_set ws place (word 2 (content (slice_index ws place)))

-- the word begins an event of e's party, service and slot, struck or not
abbrev pub posts : Event → ℕ → Bool
posts e w =
    (kind w == 1 || kind w == 2)
    && (content w / 524_288 == e.party && (content w / 16_384 % 32 == e.service && content w % 16_384 == e.slot))

-- some word does
abbrev pub posted : Event → List ℕ → Bool
posted e [] = false
posted e (w ∷ ws) = posts e w || posted e ws

-- What stands at a place of this month: no event, or one that stands or is struck.
abbrev pub Marked : ℕ → List ℕ → Option Mark → Type 0
Marked place ws None = (kind_at 1 place ws ≡ false) × (kind_at 2 place ws ≡ false)
Marked place ws (Some Standing) = (kind_at 1 place ws ≡ true) × (kind_at 2 place ws ≡ false) × (place < length ws)
Marked place ws (Some Struck) = (kind_at 1 place ws ≡ false) × (kind_at 2 place ws ≡ true) × (place < length ws)

-- The standing event of this month at the place, or there is none.
abbrev pub EventThere : ℕ → List ℕ → Option Event → Type 0
EventThere place ws None = standing_at place ws ≡ false
EventThere place ws (Some e) = (standing_at place ws ≡ true) × (e ≡ event_at place ws)

-- The new words stand after the used ones, and the words past them are as they were.
pub record Appended (used : ℕ) (new before after : List ℕ) : Type 0 where
  pub room : used + length new ≤ min (length before) 1_048_576
  pub words : take (used + length new) after ≡ take used before ++ new
  pub beyond : drop (used + length new) after ≡ drop (used + length new) before
  pub long : length after ≡ length before

-- They do not fit, and all is as it was.
pub record Unwritten (used : ℕ) (new before after : List ℕ) : Type 0 where
  pub full : min (length before) 1_048_576 < used + length new
  pub same : after ≡ before

-- What is answered, and what the journal then holds.
abbrev pub Appending : ℕ → List ℕ → List ℕ → Result (Unit {0}) Refusal → List ℕ → Type 0
Appending used new before (Ok _) after = Appended used new before after
Appending used new before (Err reason) after = (reason ≡ JournalFull) × Unwritten used new before after

-- Of the used words the one at the place is struck, and those past them are as they were.
pub record Striking (used place : ℕ) (before after : List ℕ) : Type 0 where
  pub words : take used after ≡ struck place (take used before)
  pub beyond : drop used after ≡ drop used before
  pub long : length after ≡ length before
