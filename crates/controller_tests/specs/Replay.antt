-- Where a program stands behind the first ticks of a test, and which states are told to be active there.
use Rattle.std.specs.Prelude.{ℕ, ◌≡◌, ◌<◌, ◌⊎◌, List, ◌∷◌, ◌++◌, length, map, take}
use Rattle.sc_graph.specs.declared.control.Control.{Control}
use Rattle.bytecode.specs.Image.{Image}
use Rattle.trace_player.specs.Trace.{lines_of}
use Rattle.simulation.specs.declared.history.Played.{Played}
use Rattle.simulation.specs.History.{IsHistory, present}
use Rattle.simulation.specs.Commands.{GivesNoTick}
use Rattle.simulation.specs.Tree.{active_text}

abbrev pub line_of : Played → List ℕ
line_of tick = tick.line

-- the first lines of these ticks, so many, were played, and have led here
pub record StandsBehind (image : Image) (ticks : List ℕ) (count : ℕ) (c : Control) : Type 0 where
  pub played : List Played
  pub is : IsHistory image played
  pub lines : map line_of played ≡ take count (lines_of ticks)
  pub so_many : length played ≡ count
  pub here : c ≡ present (record { image = image; ticks = played })

-- the text has the paths of the states that are active there
pub record TellsStates (image : Image) (paths : List (List ℕ)) (active : Control → List ℕ) (ticks : List ℕ) (count : ℕ) (text : List ℕ) : Type 0 where
  pub control : Control
  pub stands : StandsBehind image ticks count control
  pub is : text ≡ active_text paths (active control)

-- one of these lines gives no tick
pub record HasNoTick (image : Image) (lines : List (List ℕ)) : Type 0 where
  pub first : List (List ℕ)
  pub line : List ℕ
  pub rest : List (List ℕ)
  pub are : lines ≡ first ++ line ∷ rest
  pub none : GivesNoTick image line

-- these ticks have not so many lines, or one of the first ones gives none
abbrev pub LacksTick : Image → List ℕ → ℕ → Type 0
LacksTick image ticks count = (length (lines_of ticks) < count) ⊎ HasNoTick image (take count (lines_of ticks))
