-- In which states the threads of a lowering rest between two ticks.
use Rattle.std.specs.Prelude.{ℕ, ◌≡◌, ◌↔◌, ◌<◌, true, length}
use Rattle.chart_machine.specs.declared.standing.Configuration.{Configuration}
use Rattle.chart_machine.specs.declared.table.Table.{Table}
use Rattle.chart_machine.specs.Table.{state_at}
use Rattle.chart_machine.specs.Machine.{is_active}
use Rattle.scl.specs.Block.{Block, Branches, Pause, Fork}
use Rattle.scl.specs.Numbering.{Numbered}
use Rattle.scl.specs.Meaning.{State, Doing, Resting, Forked, doing}
use Rattle.chart_lowering_laws.specs.Layout.{Layout}
use Rattle.chart_lowering_laws.specs.Keeps.{AtRest}

-- two states of one region
pub record AreNeighbours (k : Table) (u v : ℕ) : Type 0 where
  pub first : u < length k.states
  pub second : v < length k.states
  pub holders : (state_at k u).holder ≡ (state_at k v).holder

-- no two states of a region have one pause, or one fork
pub record TellsStates (k : Table) (l : Layout) : Type 0 where
  pub pauses : (u v n : ℕ) (rest : Block) → AreNeighbours k u v → l.pause u ≡ Pause n rest → l.pause v ≡ Pause n rest → u ≡ v
  pub forks : (u v n : ℕ) (branches : Branches) (rest : Block) → AreNeighbours k u v → l.fork u ≡ Fork n branches rest → l.fork v ≡ Fork n branches rest → u ≡ v

-- a thread rests in state u: at its pause, or waiting at its fork
abbrev pub RestsIn : Layout → ℕ → Doing → Type 0
RestsIn l u (Resting n rest) = l.pause u ≡ Pause n rest
RestsIn l u (Forked n branches rest) = l.fork u ≡ Fork n branches rest
RestsIn l u other = ⊥

-- between two ticks a state is active exactly where its region's thread rests in it
abbrev pub TellsActive : Table → Numbered → Layout → Type 0
TellsActive k p l = (c : Configuration) (s : State) → AtRest k p l c s → (u : ℕ) → u < length k.states →
    (is_active k c u ≡ true) ↔ RestsIn l u (doing s (state_at k u).holder)
