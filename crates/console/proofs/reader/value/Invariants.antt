use Rattle.std.proofs.Common.{◌≡◌, ◌+◌, ◌-◌, ◌*◌, ◌^◌, ◌≤◌, take}
use Rattle.console.specs.Grammar.{read_on}
use Rattle.console.proofs.reader.value.Given as goal

-- the digits so far are read, and the number has a digit for each of them
abbrev pub invariant-loop-digit : goal.invariant-loop-digit
invariant-loop-digit l = record {
  read : l.value ≡ read_on 0 (take l.digit-index l.digits);
  places : (l.value + 1) * 10 ^ (9 - l.digit-index) ≤ 10 ^ 9;
}
