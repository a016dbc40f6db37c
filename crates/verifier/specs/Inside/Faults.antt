-- What a search for a fault of one rule answers.
use Rattle.std.specs.Prelude.{Option, Some, None}
use Rattle.sc_graph.specs.declared.place.Place.{Place}

-- none: the rule is kept at every place; else it is broken at the place that is named
abbrev pub IsFault : (Place → Type 0) → Option Place → Type 0
IsFault Kept None = (at : Place) → Kept at
IsFault Kept (Some at) = ¬ Kept at
