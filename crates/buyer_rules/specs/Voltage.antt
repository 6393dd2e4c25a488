-- A buyer's own service, and his rulebook with it. Assumes nothing.
use Rattle.std.specs.Prelude.{◌*◌, ◌&&◌, [], ◌∷◌, pos, unsigned_abs}
use Rattle.rules.specs.declared.account.Account.TheVariants.{First}
use Rattle.rules.specs.declared.facts.Facts.{Facts}
use Rattle.rules.specs.declared.kind.Kind.TheVariants.{Coal, Gas, Hydro}
use Rattle.rules.specs.Answers.{Answer}
use Rattle.rules.specs.Division.{quotient}
use Rattle.rules.specs.Layers.{or_else, capped}
use Rattle.rules.specs.Ranges.{between, unused}
use Rattle.rules.specs.Rulebooks.{table, rulebook_1}
use Rattle.rules.specs.Services.{Service, answer}

-- 10. Voltage control: X the hours in service, 0 to 744; a tenth of a fen a kW and hour.
abbrev pub voltage_control : Service
voltage_control = record {
  number = 10;
  kinds = Coal ∷ Gas ∷ Hydro ∷ [];
  fits = λ f. between (pos 0) (pos 744) f.x && unused f.y;
  account = λ f. First;
  amount = λ f. quotient (f.capacity * unsigned_abs f.x) 10;
}

-- rulebook 1, then voltage control up to 2,000,000 fen
abbrev pub with_voltage : Facts → Answer
with_voltage f = or_else (table rulebook_1 f) (capped 2_000_000 (answer voltage_control f))
