-- One month worked out: two parties, two readings, two events, 6,000 fen paid in, and the bills of its settling. Assumes nothing.
use Rattle.std.specs.Prelude.{◌≡◌, [], ◌∷◌, pos, neg_ℤ, Ok}
use Rattle.rules.specs.Figures.{Figures}
use Rattle.rules.specs.Rulebooks.{table, rulebook_1}
use Rattle.rules.specs.declared.account.Account.TheVariants.{Charges, First}
use Rattle.records.specs.Words.{event_words}
use Rattle.records.specs.Journal.{struck}
use Rattle.records.specs.declared.event.Event.{Event}
use Rattle.billing.specs.Bills.{net_sum}
use Rattle.billing.specs.Sharing.{shares}
use Rattle.settlement.specs.Book.{Book, in_month}
use Rattle.settlement.specs.Settling.{Reckoning}
use Rattle.book.specs.Runs.{New, Enrol, Read, Post, PayIn, Publish, Settle, Trace, Run}

-- the AGC event of party 11, and its outage
abbrev pub regulation : Event
regulation = record { party = 11; service = 1; slot = 0; x = pos 30_000; y = pos 1_200 }

abbrev pub outage : Event
outage = record { party = 11; service = 8; slot = 0; x = pos 300_000; y = pos 60 }

-- the two bills; no money is left
abbrev pub june_bills : Reckoning
june_bills = record {
  rows =
      record { number = 11; charge = 12_600_000; pay = 36_000; first = 20_000; second = 0; third = 0; returned = 4_373; net = pos 12_579_627 }
      ∷ record { number = 12; charge = 0; pay = 0; first = 10_000; second = 0; third = 0; returned = 12_595_627; net = neg_ℤ (pos 12_585_627) }
      ∷ [];
  left = 0;
}

-- June 2025, the last call first
abbrev pub june : Trace
june =
    Settle (Ok june_bills)
    ∷ Publish
    ∷ PayIn 6_000 (Ok 6)
    ∷ Post outage (Ok (record { place = 3; account = Charges; amount = 12_600_000 }))
    ∷ Post regulation (Ok (record { place = 0; account = First; amount = 36_000 }))
    ∷ Read (record { party = 12; slot = 0; power = pos 60_000 }) (Ok tt)
    ∷ Read (record { party = 11; slot = 0; power = pos 120_000 }) (Ok tt)
    ∷ Enrol 12 4 100_000 (Ok tt)
    ∷ Enrol 11 1 300_000 (Ok tt)
    ∷ New 2025 6 (Ok tt)
    ∷ []

-- The worked figures, together.
pub record Worked : Type 0 where
  -- the ten calls with these answers are a run under rulebook 1, and their nets add up to −6,000
  pub runs : (b : Book) × Run (table rulebook_1) june (in_month b)
  pub nets : net_sum june_bills.rows ≡ neg_ℤ (pos 6_000)
  -- the words of the first event, and its first word struck
  pub words : event_words regulation ≡ 542_654_464 ∷ 1_879_078_192 ∷ 2_415_920_304 ∷ []
  pub struck_word : struck 0 (542_654_464 ∷ []) ≡ 1_079_525_376 ∷ []
  -- 100 fen over three equal weights
  pub thirds : shares 100 (1 ∷ 1 ∷ 1 ∷ []) ≡ 33 ∷ 33 ∷ 34 ∷ []
  -- what rulebook 1 pays and charges
  pub rules : Figures
