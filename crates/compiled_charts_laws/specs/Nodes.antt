-- At which nodes of the graph of a core chart's lowering a thread rests in a state.
use Rattle.std.specs.Prelude.{ℕ, suc, ◌≡◌, ◌<◌, Option, Some, None, List, length, slice_get}
use Rattle.chart_machine.specs.declared.table.Table.{Table}
use Rattle.scl.specs.Block.{Block, Branches, Pause, Fork}
use Rattle.chart_lowering_laws.specs.Layout.{Layout}

-- by this row of nodes to states the depth of a state's pause stands for the state, and so does the join of its fork; the
-- join of the chart's own fork stands for none
pub record StandForStates (k : Table) (root : Block) (l : Layout) (nodes : List (Option ℕ)) : Type 0 where
  pub pauses : (s n : ℕ) (rest : Block) → s < length k.states → l.pause s ≡ Pause n rest → slice_get nodes (suc n) ≡ Some (Some s)
  pub forks : (s n : ℕ) (branches : Branches) (rest : Block) → s < length k.states → l.fork s ≡ Fork n branches rest →
      slice_get nodes (suc n) ≡ Some (Some s)
  pub top : (n : ℕ) (branches : Branches) (rest : Block) → root ≡ Fork n branches rest → slice_get nodes (suc n) ≡ Some None
