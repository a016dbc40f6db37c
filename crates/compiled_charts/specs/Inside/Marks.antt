-- Marks, one a state.
use Rattle.std.specs.Prelude.{ℕ, suc, ◌≡◌, ◌<◌, ◌||◌, Bool, true, false, Option, Some, None, List, [], ◌∷◌, length, get_or, slice_set}
use Rattle.sc_graph.specs.declared.control.Control.{Control}
use Rattle.std.specs.List.{list_any}
use Rattle.sc_graph.specs.declared.control.Status.{Status}
use Rattle.node_states.specs.Active.{is_active, is_number, rests_in}

abbrev pub marked : Option ℕ → List Bool → List Bool
marked None marks = marks
marked (Some n) marks = slice_set marks n true

-- the numbers of what is marked, from this one on
abbrev pub numbers_of : List Bool → ℕ → List ℕ
numbers_of [] n = []
numbers_of (true ∷ marks) n = n ∷ numbers_of marks (suc n)
numbers_of (false ∷ marks) n = numbers_of marks (suc n)

pub record AreMarked (nodes : List (Option ℕ)) (states : ℕ) (c : Control) (marks : List Bool) : Type 0 where
  pub many : length marks ≡ states
  pub each : (m : ℕ) → m < states → get_or marks m false ≡ is_active nodes c m

-- to the marks that were there come those of the states in which these threads rest
pub record AreMarkedMore (nodes : List (Option ℕ)) (statuses : List Status) (old new : List Bool) : Type 0 where
  pub each : (m : ℕ) → m < length old → get_or new m false ≡ (get_or old m false || list_any (λ s. is_number m (rests_in nodes s)) statuses)
