-- What a fault of one line says of it.
use Rattle.std.specs.Prelude.{ℕ, ⊤, List}
use Rattle.sc_graph.specs.Program.{Program}
use Rattle.trace_player.specs.declared.player.PlayFault.{PlayFault}
use Rattle.trace_player.specs.declared.player.PlayFault.TheVariants as play_fault
use Rattle.trace_player.specs.Trace.{NoInputs, NoObject, EndsAt}

-- what a fault at line number k tells of it
abbrev pub Tells : Program → ℕ → List ℕ → PlayFault → Type 0
Tells p k line (play_fault.Input n) = EndsAt p k line (NoInputs n)
Tells p k line (play_fault.NotJson n) = EndsAt p k line (NoObject n)
Tells p k line play_fault.Memory = ⊤
Tells p k line other = ⊥
