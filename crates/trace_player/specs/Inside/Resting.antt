-- Where the next tick of a trace begins.
use Rattle.std.specs.Prelude.{ℕ, ◌≡◌, ⊤, Option, MatchOption, Some, None, length}
use Rattle.sc_values.specs.Runs.{IsOver}
use Rattle.sc_graph.specs.declared.control.Control.{Control}
use Rattle.sc_graph.specs.Machine.{machine}
use Rattle.sc_graph.specs.Tick.{Inputs, initial}
use Rattle.bytecode.specs.Image.{Image}
use Rattle.tick_core.specs.State.{InTick, threads_of}
use Rattle.tick_core.specs.Whole.{WholeTick}
use Rattle.worker_pool.specs.Ticks.{Ended}

-- at the first configuration, or where the last tick ended
abbrev pub rest_behind : Image → Option InTick → Control
rest_behind image None = initial image.program
rest_behind image (Some last) = last.present

-- there was no tick, or the last one is of this image, and nobody is enabled in it
abbrev pub IsAtRest : Image → Option InTick → Type 0
IsAtRest image None = ⊤
IsAtRest image (Some last) = (last.image ≡ image) × IsOver (machine image.program) last.present

-- under these inputs, which are accepted, a tick ended that began where the one before had
abbrev pub Ticked : Image → Inputs → Option InTick → Option InTick → Type 0
Ticked image inputs before None = ⊥
Ticked image inputs before (Some last) = Ended image inputs (rest_behind image before) last

-- the last tick is a whole one, of so many steps
abbrev pub HasSteps : Option InTick → ℕ → Type 0
HasSteps last steps = MatchOption last ⊥ (λ s. WholeTick s.image s.begun (threads_of s.history) s.present × (steps ≡ length s.history))
