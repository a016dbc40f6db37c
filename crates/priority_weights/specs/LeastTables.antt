-- The least tables of a program: they keep the rules of tables, and all others that keep them are nowhere smaller.
use Rattle.std.specs.Prelude.{ℕ, ◌≡◌, ◌≤◌, true}
use Rattle.sc_graph.specs.declared.tables.Tables.{Tables}
use Rattle.sc_graph.specs.declared.place.Place.{Place}
use Rattle.sc_graph.specs.Program.{Program}
use Rattle.sc_graph.specs.Protocol.{FlowAt, ProtocolAt}
use Rattle.sc_graph.specs.Costs.{EndBitAt, WeightAt, BoundAt}
use Rattle.sc_graph.specs.Tables.{HasLengths, priority, weight, end_bit, bound}

-- the five rules of tables, at each place
pub record KeepRules (p : Program) (q : Tables) : Type 0 where
  pub end_bit : (at : Place) → EndBitAt p q at
  pub flow : (at : Place) → FlowAt p q at
  pub protocol : (at : Place) → ProtocolAt p q at
  pub weight : (at : Place) → WeightAt p q at
  pub bound : (at : Place) → BoundAt p q at

-- no entry of the first tables is greater than that of the second
pub record AreNowhereGreater (q r : Tables) : Type 0 where
  pub end_bits : (n : ℕ) → end_bit q n ≡ true → end_bit r n ≡ true
  pub priorities : (n : ℕ) → priority q n ≤ priority r n
  pub weights : (n : ℕ) → weight q n ≤ weight r n
  pub bounds : (t : ℕ) → bound q t ≤ bound r t
  pub budget : q.budget ≤ r.budget

pub record AreLeast (p : Program) (q : Tables) : Type 0 where
  pub long : HasLengths p q
  pub keeps : KeepRules p q
  pub least : (r : Tables) → KeepRules p r → AreNowhereGreater q r
