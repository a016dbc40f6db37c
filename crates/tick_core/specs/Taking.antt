-- Steps that are taken at once, without a claim.
use Rattle.std.specs.Prelude.{◌≡◌, ◌⊎◌, Some, None, option_and_then}
use Rattle.sc_values.specs.Code.{code_value}
use Rattle.sc_values.specs.Runs.{IsOver}
use Rattle.sc_graph.specs.Control.{status_of}
use Rattle.sc_graph.specs.Machine.{machine}
use Rattle.sc_graph.specs.Priority.{Leads}
use Rattle.tick_core.specs.declared.state.taking.NextStep.{NextStep}
use Rattle.tick_core.specs.Stepping.{code_at}
use Rattle.tick_core.specs.State.{InTick}
use Rattle.tick_core.specs.Turns.{claim_of, AllClaimed}

-- nobody is enabled, or every enabled thread of the greatest priority has an open claim
abbrev pub NoNextStep : InTick → Type 0
NoNextStep s = IsOver (machine s.image.program) s.present ⊎ AllClaimed s

-- of an enabled thread of the greatest priority that has no open claim, with the value of its code over the present
-- variables, where it has one
pub record IsNextStep (s : InTick) (n : NextStep) : Type 0 where
  pub leads : Leads s.image.program s.image.tables s.present n.thread
  pub unclaimed : claim_of s n.thread ≡ Some None
  pub value : n.value ≡ option_and_then (λ code. code_value code s.present.variables) (code_at s.image.program (status_of s.present n.thread))
