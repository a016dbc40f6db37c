-- Where the elements of an extended chart stand in its text of which warnings speak.
use Rattle.std.specs.Prelude.{ℕ, Bool, true, false, Option, Some, None, List, [], ◌∷◌, if◌then◌else◌}
use Rattle.extended_reader.specs.declared.text_drafts.draft.DraftItem.{DraftItem}
use Rattle.extended_reader.specs.declared.text_drafts.draft.ExtendedDraft.{ExtendedDraft}
use Rattle.chart_warnings.specs.declared.texts.places.ChartPlaces.{ChartPlaces}
use Rattle.chart_warnings.specs.Places.{places_of}

-- what stands behind no word is a variable: no constant, and no name of what a variable was
abbrev pub is_bare : {A : Type 0} → (word : Option A) → Bool
is_bare None = true
is_bare (Some word) = false

-- variables stand at their names
abbrev pub variable_places : List DraftItem → List ℕ
variable_places [] = []
variable_places (x ∷ items) = if is_bare x.word then x.declared.named.at ∷ variable_places items else variable_places items

-- all else stands as in a chart
abbrev pub author_places : ExtendedDraft → ChartPlaces
author_places d = record (places_of d.core) { variables = variable_places d.items }
