use Rattle.std.proofs.Common.{refl}
use Rattle.rules.specs.Calendar.{days}
use Rattle.rules.specs.Division.{quotient}
use Rattle.rules.specs.Ranges.{in_range}
use Rattle.rules.specs.Rulebooks.{table}
use Rattle.billing.specs.Sharing.{part, step}
use Rattle.settlement.specs.Book.{Room}
use Rattle.settlement.specs.Enrolling.{unreadable}
use Rattle.settlement.specs.Posting.{unpostable}
use Rattle.book.specs.Runs.{new, enrol, read, post, pay_in, publish, settle, start, next}
use Rattle.book.proofs.worked.worked_table.Goals as goal

room : Room
room = record { journal = 100; roster = 2; objecting = 0; sheet = 2 }

-- every check and every answer of the month computes
pub returns : goal.returns
unfolding room days quotient in_range table part step unreadable unpostable
returns c = record {
  runs = (
    _,
    next {room = room} (next {room = room} (next {room = room} (next {room = room} (next {room = room} (next {room = room} (next {room = room}
        (next {room = room} (next {room = room} (next {room = room} start
        (new refl))
        (enrol (record { free = refl; answers = tt; leaves = refl })))
        (enrol (record { free = refl; answers = tt; leaves = refl })))
        (read (record { free = refl; answers = tt; leaves = refl })))
        (read (record { free = refl; answers = tt; leaves = refl })))
        (post (record { free = refl; answers = record { at = refl; meant = refl }; leaves = refl })))
        (post (record { free = refl; answers = record { at = refl; meant = refl }; leaves = refl })))
        (pay_in (record { free = refl; answers = refl; leaves = refl })))
        publish)
        (settle (record { free = refl; answers = record { rows_are = refl; left_is = refl }; leaves = refl })),
  );
  nets = refl;
  words = refl;
  struck_word = refl;
  thirds = refl;
  rules = c.worked_figures.ensures;
}
