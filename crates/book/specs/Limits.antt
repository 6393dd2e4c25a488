-- The limits that the book keeps. Assumes nothing.
use Rattle.std.specs.Prelude.{◌*◌, ◌<◌, ◌≤◌, length}
use Rattle.std.specs.List.{AllByRecursion}
use Rattle.rules.specs.declared.sums.Sums.{Sums}
use Rattle.register.specs.Numbered.{Rising}
use Rattle.records.specs.declared.enrolment.Enrolment.{Enrolment}
use Rattle.billing.specs.Lines.{Line, number}
use Rattle.settlement.specs.Book.{Book, State, no_book, in_month, published}
use Rattle.billing.specs.Bills.{sums_over}

-- A party's number and capacity.
pub record PartyFits (p : Enrolment) : Type 0 where
  pub number_low : 1 ≤ p.number
  pub number_high : p.number ≤ 1023
  pub capacity_low : 1 ≤ p.capacity
  pub capacity_high : p.capacity ≤ 4_000_000

-- Sums of at most 40,000,000,000 fen.
pub record SumsFit (s : Sums) : Type 0 where
  pub charges : s.charges ≤ 40_000_000_000
  pub first : s.first ≤ 40_000_000_000
  pub second : s.second ≤ 40_000_000_000
  pub third : s.third ≤ 40_000_000_000

-- A party's line never holds a figure outside its limits.
pub record LineFits (l : Line) : Type 0 where
  pub party : PartyFits l.party
  pub sums : SumsFit l.sums
  pub passed : l.passed ≤ 8_928
  pub magnitude : l.magnitude ≤ 4_000_000 * l.passed
  pub running : l.running ≤ l.passed

-- The book: its month is of the years 2000 to 2099, its words have 32 bits, its lines fit, and it holds no more than it may.
pub record BookFits (b : Book) : Type 0 where
  pub month_low : 24_000 ≤ b.month
  pub month_high : b.month ≤ 25_199
  pub words : AllByRecursion (λ w. w < 4_294_967_296) b.words
  pub words_used : length b.words ≤ 1_048_576
  pub lines : AllByRecursion LineFits b.lines
  pub rising : Rising number b.lines
  pub parties : length b.lines ≤ 64
  pub objections : length b.objections ≤ 16
  pub sums : SumsFit (sums_over b.lines)
  pub fund : b.fund ≤ 40_000_000_000

-- The book of a state, if there is one.
abbrev pub StateFits : State → Type 0
StateFits no_book = Unit {0}
StateFits (in_month b) = BookFits b
StateFits (published b) = BookFits b
