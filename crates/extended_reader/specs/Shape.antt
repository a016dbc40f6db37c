-- What the text of an extended chart keeps by its grammar alone: its core keeps what a chart's text does, and beside it
-- stand as many items, and as many rows of actions and of what is new of transitions, as it has variables, states and
-- transitions.
use Rattle.std.specs.Prelude.{ℕ, suc, ◌+◌, ◌≡◌, List, [], ◌∷◌, length, map}
use Rattle.chart_reader.specs.declared.text_drafts.draft.DraftRegion.{DraftRegion}
use Rattle.chart_reader.specs.declared.text_drafts.draft.DraftRegion.TheOpen.{DraftRegion-F, DraftState-F}
use Rattle.chart_reader.specs.declared.text_drafts.draft.DraftRegion.TheFolds.{fold-DraftRegion, fold-DraftState}
use Rattle.chart_reader.specs.declared.text_drafts.draft.DraftState.{DraftState}
use Rattle.chart_reader.specs.Shape.{IsShaped}
use Rattle.extended_reader.specs.declared.text_drafts.draft.ExtendedDraft.{ExtendedDraft}

abbrev pub total : List ℕ → ℕ
total [] = 0
total (n ∷ counts) = n + total counts

-- how many are in a region, by how many are in each of its states
abbrev pub in_states : DraftRegion-F ℕ ℕ → ℕ
in_states r = total r.states

abbrev pub state_count : DraftState-F ℕ ℕ → ℕ
state_count s = suc (total s.regions)

abbrev pub transition_count : DraftState-F ℕ ℕ → ℕ
transition_count s = total s.regions + length s.transitions

-- the states in a region, and those in a state, which is one of them
abbrev pub states_in_region : DraftRegion → ℕ
states_in_region = fold-DraftRegion ℕ ℕ in_states state_count

abbrev pub states_in_state : DraftState → ℕ
states_in_state = fold-DraftState ℕ ℕ in_states state_count

abbrev pub transitions_in_region : DraftRegion → ℕ
transitions_in_region = fold-DraftRegion ℕ ℕ in_states transition_count

abbrev pub transitions_in_state : DraftState → ℕ
transitions_in_state = fold-DraftState ℕ ℕ in_states transition_count

-- what each draft keeps
pub record IsExtendedShaped (d : ExtendedDraft) : Type 0 where
  pub core : IsShaped d.core
  pub items : d.core.variables ≡ map (λ x. x.declared) d.items
  pub entries : length d.rows.entries ≡ total (map states_in_region d.core.regions)
  pub ways : length d.rows.ways ≡ total (map transitions_in_region d.core.regions)
