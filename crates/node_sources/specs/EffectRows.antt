-- The effects of each transition of a draft, by their numbers: those of transitions in the order of the text, where a state's own
-- ones come before those in it.
use Rattle.std.specs.Prelude.{ℕ, ◌+◌, List, [], ◌∷◌, ◌++◌, map, length}
use Rattle.core_charts.specs.Elements.{row}
use Rattle.chart_reader.specs.declared.text_drafts.draft.DraftTransition.{DraftTransition}
use Rattle.chart_reader.specs.declared.text_drafts.draft.DraftRegion.{DraftRegion}
use Rattle.chart_reader.specs.declared.text_drafts.draft.DraftRegion.TheOpen.{DraftRegion-F, DraftState-F}
use Rattle.chart_reader.specs.declared.text_drafts.draft.DraftRegion.TheFolds.{fold-DraftRegion, fold-DraftState}
use Rattle.chart_reader.specs.declared.text_drafts.draft.DraftState.{DraftState}
use Rattle.node_sources.specs.declared.extended.text_places.author.EffectRow.{EffectRow}

-- ---- how many there are

abbrev pub Counts : Type 0
Counts = List ℕ

abbrev pub of_transitions : List DraftTransition → Counts
of_transitions transitions = map (λ t. length t.effects) transitions

abbrev pub in_state : DraftState-F Counts Counts → Counts
in_state s = of_transitions s.transitions ++ row s.regions

abbrev pub in_region : DraftRegion-F Counts Counts → Counts
in_region r = row r.states

abbrev pub of_region : DraftRegion → Counts
of_region = fold-DraftRegion Counts Counts in_region in_state

abbrev pub of_state : DraftState → Counts
of_state = fold-DraftState Counts Counts in_region in_state

-- ---- their numbers

abbrev pub rows_from : (first : ℕ) → Counts → List EffectRow
rows_from first [] = []
rows_from first (count ∷ counts) = record { first = first; count = count } ∷ rows_from (first + count) counts

abbrev pub effect_rows : List DraftRegion → List EffectRow
effect_rows regions = rows_from 0 (row (map of_region regions))
