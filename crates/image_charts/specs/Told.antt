-- Which of the states are told that the author of a text wrote.
use Rattle.std.specs.Prelude.{ℕ, ◌≡◌, ◌<◌, ◌↔◌, true, Option, Some}
use Rattle.sc_graph.specs.declared.control.Control.{Control}
use Rattle.author_states.specs.Author.{AuthorsStates}
use Rattle.node_states.specs.Active.{active_states, is_active}
use Rattle.std.specs.List.{Contains}
use Rattle.image_charts.specs.Charts.{NamedStates}
use Rattle.image_charts.specs.Written.{told_by, written_state}

-- the state of this number is told to be active in a configuration
abbrev pub IsTold : NamedStates → Control → ℕ → Type 0
IsTold states c m = Contains (active_states states.compiled.nodes states.compiled.states c) m

-- a state of the chart is active there that stands for the author's state of this number
pub record IsStoodFor (authors : Option AuthorsStates) (own : NamedStates) (c : Control) (m : ℕ) : Type 0 where
  pub state : ℕ
  pub active : is_active own.compiled.nodes c state ≡ true
  pub stands : written_state authors state ≡ Some m

-- each state of the author's is told exactly where a state of the chart is active that stands for it
pub record AuthorsAreTold : Type 0 where
  pub told : (authors : Option AuthorsStates) (own : NamedStates) (c : Control) (m : ℕ) → m < (told_by authors own).compiled.states
      → IsTold (told_by authors own) c m ↔ IsStoodFor authors own c m
