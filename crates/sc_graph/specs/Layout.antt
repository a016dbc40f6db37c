-- What the counts of an image can say of a program.
use Rattle.std.specs.Prelude.{ℕ, ◌≡◌, ◌≢◌, ◌≤◌, Some, List, length, slice_get}
use Rattle.sc_graph.specs.declared.program.Variable.{Variable}
use Rattle.sc_graph.specs.declared.program.Thread.{Thread}
use Rattle.sc_graph.specs.declared.program.Node.{Node}
use Rattle.sc_graph.specs.declared.program.Step.{Step}
use Rattle.sc_graph.specs.declared.program.Step.TheVariants as step
use Rattle.sc_graph.specs.Limits.{count_limit, child_count_limit, no_parent}

abbrev pub CountsChildren : Step → Type 0
CountsChildren (step.Fork children join) = length children ≤ child_count_limit
CountsChildren other = Unit {0}

-- each count can be said, and no parent has the number that stands for none
pub record FitsLayout (variables : List Variable) (threads : List Thread) (nodes : List Node) : Type 0 where
  pub variables_counted : length variables ≤ count_limit
  pub threads_counted : length threads ≤ count_limit
  pub nodes_counted : length nodes ≤ count_limit
  pub children_counted : (n : ℕ) (x : Node) → slice_get nodes n ≡ Some x → CountsChildren x.step
  pub parents : (t : ℕ) (x : Thread) → slice_get threads t ≡ Some x → x.parent ≢ Some no_parent
