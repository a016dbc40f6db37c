use Rattle.std.proofs.Common.{ℕ, ◌-◌, ◌≤◌, List, ◌++◌, length, drop}
use Rattle.sc_text.specs.declared.token.Token.{Token}
use Rattle.sc_text.specs.declared.read_fault.FaultKind.{FaultKind}
use Rattle.sc_text.specs.Tokens.{AreTokens, IsFirstFault}
use Rattle.sc_text.proofs.scan.tokens.Given as goal

abbrev pub invariant-loop-at : goal.invariant-loop-at
invariant-loop-at l = record {
  within : l.at ≤ length l.bytes;
  done : (more : List Token) → AreTokens l.language l.at (drop l.at l.bytes) more → AreTokens l.language 0 l.bytes (l.tokens ++ more);
  faulty : (b : FaultKind) (place : ℕ) → IsFirstFault l.language l.at (drop l.at l.bytes) b place → IsFirstFault l.language 0 l.bytes b place;
}

abbrev pub decreases-loop-at : goal.decreases-loop-at
decreases-loop-at l = length l.bytes - l.at
