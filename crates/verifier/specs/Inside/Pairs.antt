-- The rule of pairs of nodes: where it is broken.
use Rattle.std.specs.Prelude.{ℕ, ◌≡◌, List, Contains}
use Rattle.sc_graph.specs.declared.place.Place.{Place}
use Rattle.sc_graph.specs.declared.place.Place.TheVariants as place
use Rattle.sc_graph.specs.declared.tables.Tables.{Tables}
use Rattle.sc_graph.specs.Program.{Program}
use Rattle.program_edges.specs.AlongVariables.{FallsTo}

-- the place is a pair of a first and a second node between which priority does not fall
pub record NoFallBetween (p : Program) (q : Tables) (firsts seconds : List ℕ) (at : Place) : Type 0 where
  pub first : ℕ
  pub second : ℕ
  pub is : at ≡ place.Pair first second
  pub in_firsts : Contains firsts first
  pub in_seconds : Contains seconds second
  pub no_fall : ¬ FallsTo p q.priorities first second
