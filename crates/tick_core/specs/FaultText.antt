-- What is printed of a tick that was not begun.
use Rattle.std.specs.Prelude.{ℕ, List, codes}
use Rattle.tick_core.specs.declared.state.BeginFault.{BeginFault}
use Rattle.tick_core.specs.declared.state.BeginFault.TheVariants as fault

abbrev pub fault_text : BeginFault → List ℕ
fault_text fault.Input = codes "E51"
fault_text fault.Memory = codes "E52"
