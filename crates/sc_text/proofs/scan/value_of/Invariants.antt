use Rattle.std.proofs.Common.{◌≡◌, ◌≤◌, drop}
use Rattle.sc_text.specs.Tokens.{number_limit, written, written_behind}
use Rattle.sc_text.proofs.scan.value_of.Given as goal

abbrev pub invariant-loop-digit : goal.invariant-loop-digit
invariant-loop-digit l = record {
  within : l.value ≤ number_limit;
  rest : written_behind l.value (drop l.digit-index l.digits) ≡ written l.digits;
}
