-- The book that is kept month after month. Assumes nothing.
use Rattle.std.specs.Prelude.{ℕ, List, []}
use Rattle.billing.specs.Lines.{Line}
use Rattle.settlement.specs.declared.objection.Objection.{Objection}

-- objections go by the place of their event
abbrev pub place_of : Objection → ℕ
place_of o = o.place

-- The book: the month by its count, how many words of the journal are used, those words as far as the journal lent has them,
-- the parties' lines, the objections, and the commissioning fund's money left.
pub record Book : Type 0 where
  pub month : ℕ
  pub used : ℕ
  pub words : List ℕ
  pub lines : List Line
  pub objections : List Objection
  pub fund : ℕ

-- a new book, with its first month
abbrev pub new_book : ℕ → Book
new_book m = record { month = m; used = 0; words = []; lines = []; objections = []; fund = 0 }

-- the book with one part replaced
abbrev pub with_words : (used : ℕ) → List ℕ → Book → Book
with_words n ws b = record { month = b.month; used = n; words = ws; lines = b.lines; objections = b.objections; fund = b.fund }

abbrev pub with_lines : List Line → Book → Book
with_lines ls b = record { month = b.month; used = b.used; words = b.words; lines = ls; objections = b.objections; fund = b.fund }

abbrev pub with_objections : List Objection → Book → Book
with_objections os b = record { month = b.month; used = b.used; words = b.words; lines = b.lines; objections = os; fund = b.fund }

abbrev pub with_fund : ℕ → Book → Book
with_fund n b = record { month = b.month; used = b.used; words = b.words; lines = b.lines; objections = b.objections; fund = n }

-- There is no book yet; or its month is open; or its month is published and not yet settled.
pub data State : Type 0 where
  no_book : State
  in_month : Book → State
  published : Book → State

-- the money left in the fund, and the journal's used words
abbrev pub fund_in : State → ℕ
fund_in no_book = 0
fund_in (in_month b) = b.fund
fund_in (published b) = b.fund

abbrev pub words_in : State → List ℕ
words_in no_book = []
words_in (in_month b) = b.words
words_in (published b) = b.words

-- The room lent to a call: words of the journal, lines for parties, lines for objections, rows of the sheet.
pub record Room : Type 0 where
  pub journal : ℕ
  pub roster : ℕ
  pub objecting : ℕ
  pub sheet : ℕ
