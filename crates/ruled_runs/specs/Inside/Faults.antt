-- What a line says, and the fault of one that gives no inputs.
use Rattle.std.specs.Prelude.{ℕ, List}
use Rattle.sc_graph.specs.Program.{Program}
use Rattle.trace_player.specs.declared.player.PlayFault.{PlayFault}
use Rattle.trace_player.specs.declared.player.PlayFault.TheVariants as play_fault
use Rattle.ruled_runs.specs.Lines.{Gives, IsBad}
use Rattle.ruled_runs.specs.declared.traces.answer.Bad.{Bad}
use Rattle.ruled_runs.specs.declared.traces.answer.Bad.TheVariants as bad
use Rattle.ruled_runs.specs.declared.traces.rules.Rules.{Rules}
use Rattle.ruled_runs.specs.declared.traces.session.Said.{Said}
use Rattle.ruled_runs.specs.declared.traces.session.Said.TheVariants as said

-- what a line says
abbrev pub Says : Rules → Program → List ℕ → Said → Type 0
Says rules p line (said.Gives inputs) = Gives rules p line inputs
Says rules p line (said.Lacks kind) = IsBad rules p line kind

-- the fault of line number k, which gives no inputs
abbrev pub fault_of : Bad → ℕ → PlayFault
fault_of bad.NoInputs k = play_fault.Input k
fault_of bad.NoObject k = play_fault.NotJson k
