-- A whole tick: where it ends, and all the runs that lead there.
use Rattle.std.specs.Prelude.{ℕ, ◌≡◌, ◌≤◌, List, length, IsPermutation}
use Rattle.sc_values.specs.Runs.{IsAdmissible, Completes, Ends}
use Rattle.sc_graph.specs.declared.control.Control.{Control}
use Rattle.sc_graph.specs.Machine.{machine}
use Rattle.bytecode.specs.Image.{Image}

-- a tick that began at c ended in d and could end nowhere else: an admissible run within the budget leads there,
-- and every admissible complete run is a reordering of it
pub record WholeTick (image : Image) (c : Control) (run : List ℕ) (d : Control) : Type 0 where
  pub complete : Completes (machine image.program) run c d
  pub admissible : IsAdmissible (machine image.program) run c
  pub within : length run ≤ image.tables.budget
  pub one_end : (other : Control) → Ends (machine image.program) c other → other ≡ d
  pub reordered : (other : List ℕ) (end : Control) → Completes (machine image.program) other c end → IsAdmissible (machine image.program) other c
      → IsPermutation other run
