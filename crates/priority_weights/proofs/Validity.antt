-- The least tables of a program make a valid image.
use Rattle.std.proofs.Common.{◌≤◌}
use Rattle.sc_graph.specs.declared.place.Place.{Place}
use Rattle.sc_graph.specs.declared.place.Place.TheVariants as place
use Rattle.sc_graph.specs.declared.tables.Tables.{Tables}
use Rattle.sc_graph.specs.Program.{Program}
use Rattle.sc_graph.specs.Size.{BudgetFitsAt}
use Rattle.sc_graph.specs.Limits.{budget_limit}
use Rattle.sc_graph.specs.Codes.{AssignmentAt, CodeAt}
use Rattle.sc_graph.specs.Protocol.{NoConflictAt}
use Rattle.sc_graph.specs.Valid.{IsFormed, IsValid}
use Rattle.program_edges.specs.Conflicts.{HasNoConflict}
use Rattle.priority_weights.specs.LeastTables.{AreLeast}

budget_fits : (q : Tables) → q.budget ≤ budget_limit → (at : Place) → BudgetFitsAt q at
budget_fits q le place.Image = le
budget_fits q le (place.Variable x) = tt
budget_fits q le (place.Thread t) = tt
budget_fits q le (place.Node n) = tt
budget_fits q le (place.Pair m n) = tt

none_at : (p : Program) → HasNoConflict p → (at : Place) → NoConflictAt p at
none_at p h (place.Pair m n) = h.none m n
none_at p h place.Image = tt
none_at p h (place.Variable x) = tt
none_at p h (place.Thread t) = tt
none_at p h (place.Node n) = tt

pub least_valid : (p : Program) (q : Tables) → IsFormed p → ((at : Place) → CodeAt p at) → ((at : Place) → AssignmentAt p at) → HasNoConflict p → AreLeast p q
    → q.budget ≤ budget_limit → IsValid p q
least_valid p q formed code assignment none least le = record {
  size = λ at. (formed.size at, budget_fits q le at);
  structure = formed.structure;
  code = code;
  assignment = assignment;
  end_bit = least.keeps.end_bit;
  no_conflict = none_at p none;
  flow = least.keeps.flow;
  protocol = least.keeps.protocol;
  weight = least.keeps.weight;
  bound = least.keeps.bound;
}
