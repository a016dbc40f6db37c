-- What is opened: a valid image, and the states of the chart that it is of.
use Rattle.std.specs.Prelude.{ℕ, Option, List, [], ◌∷◌, ◌++◌}
use Rattle.bytecode.specs.Image.{Image}

-- for which state of a chart each node stands, and the paths by which its states are named; none where there is no chart
pub record ChartStates : Type 0 where
  pub nodes : List (Option ℕ)
  pub paths : List (List ℕ)

-- an image, and the states of its chart
pub record OpenedImage : Type 0 where
  pub image : Image
  pub states : ChartStates

abbrev pub no_states : ChartStates
no_states = record { nodes = []; paths = [] }

-- names as they go out: a zero byte behind each
abbrev pub ended_by_zero : List (List ℕ) → List ℕ
ended_by_zero [] = []
ended_by_zero (name ∷ names) = name ++ 0 ∷ ended_by_zero names
