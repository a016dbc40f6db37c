-- Programs without write conflicts.
use Rattle.std.specs.Prelude.{ℕ}
use Rattle.sc_graph.specs.Program.{Program}
use Rattle.sc_graph.specs.Protocol.{WriteConflict}

-- no two nodes of the program conflict
pub record HasNoConflict (p : Program) : Type 0 where
  pub none : (m n : ℕ) → ¬ WriteConflict p m n
