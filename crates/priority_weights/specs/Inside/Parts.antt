-- The parts of the least tables, each by the one before.
use Rattle.std.specs.Prelude.{ℕ, List, ◌++◌, length, map, nat_lt, slice_index}
use Rattle.sc_graph.specs.declared.tables.Tables.{Tables}
use Rattle.sc_graph.specs.Program.{Program}
use Rattle.least_or_cycle.specs.Least.{IsLeast, IsWithin}
use Rattle.least_or_cycle.specs.Walks.{Falls}
use Rattle.priority_weights.specs.Edges.{InOrder}
use Rattle.priority_weights.specs.Inside.Bounds.{AreLeastBounds}
use Rattle.priority_weights.specs.Inside.Entries.{BitKept, WeightKept, bits}

pub record AreParts (p : Program) (ends priorities weights bounds : List ℕ) : Type 0 where
  pub end_bits : IsLeast (BitKept p) (length p.nodes) ends
  pub order : IsLeast (Falls (InOrder p)) (length p.nodes) priorities
  pub order_within : IsWithin (length p.nodes) (length p.nodes) (slice_index priorities)
  pub weights_least : IsLeast (WeightKept p (bits (slice_index ends))) (length p.nodes) weights
  pub weights_within : IsWithin (length p.nodes) (length p.nodes) (slice_index weights)
  pub covering : AreLeastBounds p (slice_index weights) bounds

-- what is put into tables that lack these
abbrev pub fill_tables : (ends priorities weights : List ℕ) → Tables → Tables
fill_tables ends priorities weights q =
    record q {
      priorities = q.priorities ++ priorities;
      weights = q.weights ++ weights;
      end_bits = q.end_bits ++ map (nat_lt 0) ends;
    }
