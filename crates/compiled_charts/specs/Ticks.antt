-- Ticks in a row.
use Rattle.std.specs.Prelude.{ℕ, suc, ◌<◌, ◌≡◌, Some, List, [], ◌∷◌, slice_get}
use Rattle.sc_graph.specs.declared.control.Control.{Control}
use Rattle.sc_graph.specs.Program.{Program}
use Rattle.sc_graph.specs.Tick.{Inputs, AreAccepted}
use Rattle.bytecode.specs.Image.{Image}
use Rattle.tick_core.specs.declared.history.Report.{Report}
use Rattle.worker_pool.specs.Ticks.{IsTick}

-- a whole tick, whoever took which step
abbrev pub Leads : Image → Inputs → Control → Control → Type 0
Leads image inputs c d = (report : Report) × IsTick image inputs c d report

-- these are the configurations after each of these ticks, where each begins at the end of the one before, the first at c
abbrev pub AreTicks : Image → List Inputs → Control → List Control → Type 0
AreTicks image [] c [] = Unit {0}
AreTicks image (inputs ∷ ticks) c (d ∷ ds) = Leads image inputs c d × AreTicks image ticks d ds
AreTicks image ticks c ds = ⊥

-- tick k, counted from 1, is the first whose inputs are not accepted
pub record IsFirstRefused (p : Program) (ticks : List Inputs) (k : ℕ) : Type 0 where
  pub before : ℕ
  pub counted : k ≡ suc before
  pub inputs : Inputs
  pub there : slice_get ticks before ≡ Some inputs
  pub refused : ¬ AreAccepted p inputs
  pub earlier : (j : ℕ) (others : Inputs) → j < before → slice_get ticks j ≡ Some others → AreAccepted p others
