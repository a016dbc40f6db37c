-- Ticks of which the first ones were run.
use Rattle.std.specs.Prelude.{ℕ, ◌≡◌, ◌<◌, Some, List, ◌++◌, drop, slice_get}
use Rattle.sc_graph.specs.declared.control.Control.{Control}
use Rattle.sc_graph.specs.Tick.{Inputs, AreAccepted, Rests, initial}
use Rattle.bytecode.specs.Image.{Image}
use Rattle.compiled_charts.specs.Ticks.{AreTicks}

-- so many were run, with these configurations behind them, the last of which is the present one: whatever the others make of it
-- stands behind these
pub record RanTo (image : Image) (ticks : List Inputs) (at : ℕ) (present : Control) (controls : List Control) : Type 0 where
  pub rests : Rests image.program present
  pub others : (ds : List Control) → AreTicks image (drop at ticks) present ds → AreTicks image ticks (initial image.program) (controls ++ ds)
  pub accepted : (j : ℕ) (inputs : Inputs) → j < at → slice_get ticks j ≡ Some inputs → AreAccepted image.program inputs
