use Rattle.std.proofs.Common.{◌≡◌, ℕ, ◌<◌, length, get_or, MatchOption, rules}
use Rattle.std.proofs.iter.runs.Made.{chains}
use Rattle.records.specs.Words.{kind}
use Rattle.records.proofs.Months.{found_last}
use Rattle.records.proofs.journal.month_start.Goals as goal

pub returns-clause-start : goal.returns-clause-start
returns-clause-start c =
    let ws = c.args.words.now in
    let last : MatchOption c.rposition.result ((k : ℕ) → k < length ws → ¬ (kind (get_or ws k 0) ≡ 6))
    (λ i. (i < length ws) × (kind (get_or ws i 0) ≡ 6) × ((k : ℕ) → i < k → k < length ws → ¬ (kind (get_or ws k 0) ≡ 6))) = search (rules, chains) in
    found_last ws c.rposition.result c.map_or.result last (search rules)
