-- What comparing a trace comes to.
use Rattle.std.specs.Prelude.{ℕ, List}
use Rattle.trace_player.specs.declared.player.PlayFault.{PlayFault}
use Rattle.trace_player.specs.declared.player.PlayFault.TheVariants as play_fault
use Rattle.controller_tests.specs.declared.outcome.Outcome.{Outcome}
use Rattle.controller_tests.specs.declared.outcome.Outcome.TheVariants as outcome
use Rattle.controller_tests.specs.Difference.{AreSameLines, IsFirstDifference}

-- what the comparison of a whole trace with the one that is wanted comes to
abbrev pub ComparesTo : List ℕ → List ℕ → Outcome → Type 0
ComparesTo wanted trace outcome.Passed = AreSameLines wanted trace
ComparesTo wanted trace (outcome.Differs d) = IsFirstDifference wanted trace d
ComparesTo wanted trace (outcome.Stops fault) = ⊥

-- a fault as it is told of ticks in memory: where a read or a write fails, memory was refused
abbrev pub in_memory : PlayFault → PlayFault
in_memory play_fault.Read = play_fault.Memory
in_memory play_fault.Write = play_fault.Memory
in_memory fault = fault
