-- What the answer of a check says of the rules.
use Rattle.std.specs.Prelude.{ℕ, ◌<◌}
use Rattle.sc_graph.specs.declared.place.Place.{Place}
use Rattle.sc_graph.specs.declared.tables.Tables.{Tables}
use Rattle.sc_graph.specs.Program.{Program}
use Rattle.sc_graph.specs.Size.{SizeAt}
use Rattle.sc_graph.specs.Structure.{StructureAt}
use Rattle.sc_graph.specs.Codes.{CodeAt, AssignmentAt}
use Rattle.sc_graph.specs.Protocol.{NoConflictAt, FlowAt, ProtocolAt}
use Rattle.sc_graph.specs.Costs.{EndBitAt, WeightAt, BoundAt}
use Rattle.verifier.specs.declared.rule.Rule.{Rule}
use Rattle.verifier.specs.declared.rule.Rule.TheVariants as rule
use Rattle.verifier.specs.declared.rule.Broken.{Broken}

-- a rule is kept at a place
abbrev pub KeptAt : Rule → Program → Tables → Place → Type 0
KeptAt rule.Size p q at = SizeAt p q at
KeptAt rule.Structure p q at = StructureAt p at
KeptAt rule.Code p q at = CodeAt p at
KeptAt rule.Assignment p q at = AssignmentAt p at
KeptAt rule.EndBit p q at = EndBitAt p q at
KeptAt rule.NoConflict p q at = NoConflictAt p at
KeptAt rule.Flow p q at = FlowAt p q at
KeptAt rule.Protocol p q at = ProtocolAt p q at
KeptAt rule.Weight p q at = WeightAt p q at
KeptAt rule.Bound p q at = BoundAt p q at

-- the number of the rule's fault, by which the rules are ordered
abbrev pub fault_number : Rule → ℕ
fault_number rule.Size = 31
fault_number rule.Structure = 32
fault_number rule.Code = 33
fault_number rule.Assignment = 34
fault_number rule.EndBit = 35
fault_number rule.NoConflict = 36
fault_number rule.Flow = 37
fault_number rule.Protocol = 38
fault_number rule.Weight = 39
fault_number rule.Bound = 40

-- each rule whose number is below this one is kept at every place
abbrev pub KeepsBelow : Program → Tables → ℕ → Type 0
KeepsBelow p q number = (lower : Rule) → fault_number lower < number → (at : Place) → KeptAt lower p q at

-- the rule is broken at that place, and each lower one is kept at every place
pub record IsLowestBroken (p : Program) (q : Tables) (broken : Broken) : Type 0 where
  pub breaks : ¬ KeptAt broken.rule p q broken.place
  pub lower : KeepsBelow p q (fault_number broken.rule)
