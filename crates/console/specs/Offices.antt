-- A desk with all that is lent to it. Assumes nothing.
use Rattle.std.specs.Prelude.{◌≡◌, ℕ, List, [], length, Option}
use Rattle.register.specs.Held.{held}
use Rattle.settlement.specs.Lent.{room_of}
use Rattle.book.specs.declared.stage.Stage.TheVariants.{NoBook}
use Rattle.console.specs.declared.choice.Choice.TheVariants.{First}
use Rattle.console.specs.declared.office.Office.{Office}
use Rattle.console.specs.declared.office.Store.{Store}
use Rattle.console.specs.Desks.{Answering}

-- a line is answered at the desk, with what is lent to it
abbrev pub Answers : Office → (line : List ℕ) → (long : Option ℕ) → Office → Type 0
Answers o line long o' = Answering o.desk o.memory o.sheet.now line o.page.now o'.desk long o'.memory o'.sheet.now o'.page.now

-- the sheet and the page are those that were lent before
pub record SameLent (before after : Office) : Type 0 where
  pub sheet : after.sheet.ghost_name ≡ before.sheet.ghost_name
  pub rows : length after.sheet.now ≡ length before.sheet.now
  pub page : after.page.ghost_name ≡ before.page.ghost_name
  pub bytes : length after.page.now ≡ length before.page.now

-- No book yet, and memory of a book's full size with nothing in use.
pub record IsNew (o : Office) : Type 0 where
  pub stage : o.desk.stage ≡ NoBook
  pub choice : o.desk.choice ≡ First
  pub roster : held o.memory.roster ≡ []
  pub objections : held o.memory.objections ≡ []
  pub room : room_of (length o.sheet.now) o.memory ≡ record { journal = 16384; roster = 64; objecting = 16; sheet = 64 }
  pub page : length o.page.now ≡ 8192

-- all that is lent holds what the store held
pub record LentFrom (store : Store) (o : Office) : Type 0 where
  pub words : o.memory.words.now ≡ store.words
  pub lines : o.memory.roster.lines.now ≡ store.lines
  pub objections : o.memory.objections.lines.now ≡ store.objections
  pub sheet : o.sheet.now ≡ store.sheet
  pub page : o.page.now ≡ store.page
