-- The ten rules together.
use Rattle.sc_graph.specs.declared.place.Place.{Place}
use Rattle.sc_graph.specs.declared.tables.Tables.{Tables}
use Rattle.sc_graph.specs.Program.{Program}
use Rattle.sc_graph.specs.Size.{ProgramFitsAt, SizeAt}
use Rattle.sc_graph.specs.Structure.{StructureAt}
use Rattle.sc_graph.specs.Codes.{CodeAt, AssignmentAt}
use Rattle.sc_graph.specs.Protocol.{NoConflictAt, FlowAt, ProtocolAt}
use Rattle.sc_graph.specs.Costs.{EndBitAt, WeightAt, BoundAt}

-- a program that meets the size and range rule, the budget aside, and the structure rule
pub record IsFormed (p : Program) : Type 0 where
  pub size : (at : Place) → ProgramFitsAt p at
  pub structure : (at : Place) → StructureAt p at

-- a valid image: each rule is kept at each place
pub record IsValid (p : Program) (q : Tables) : Type 0 where
  pub size : (at : Place) → SizeAt p q at
  pub structure : (at : Place) → StructureAt p at
  pub code : (at : Place) → CodeAt p at
  pub assignment : (at : Place) → AssignmentAt p at
  pub end_bit : (at : Place) → EndBitAt p q at
  pub no_conflict : (at : Place) → NoConflictAt p at
  pub flow : (at : Place) → FlowAt p q at
  pub protocol : (at : Place) → ProtocolAt p q at
  pub weight : (at : Place) → WeightAt p q at
  pub bound : (at : Place) → BoundAt p q at
