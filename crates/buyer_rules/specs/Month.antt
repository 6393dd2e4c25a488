-- The buyer's month: one coal unit, one reading, a hundred hours of voltage control. Assumes nothing.
use Rattle.std.specs.Prelude.{List, [], ◌∷◌, pos}
use Rattle.book.specs.declared.call.Call.{Call}
use Rattle.book.specs.declared.call.Call.TheVariants.{New, Enrol, Read, Post, Publish, Settle}

abbrev pub june_calls : List Call
june_calls =
    New 2025 6
    ∷ Enrol 11 1 600_000
    ∷ Read (record { party = 11; slot = 0; power = pos 300_000 })
    ∷ Post (record { party = 11; service = 10; slot = 0; x = pos 100; y = pos 0 })
    ∷ Publish
    ∷ Settle
    ∷ []
