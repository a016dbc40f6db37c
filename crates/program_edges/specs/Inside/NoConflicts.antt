-- Programs without write conflicts, variable by variable.
use Rattle.std.specs.Prelude.{ℕ, List, Contains}
use Rattle.sc_graph.specs.Program.{Program}
use Rattle.sc_graph.specs.Protocol.{WriteConflict}
use Rattle.program_edges.specs.Users.{InitsAt, UpdatesAt}

-- no two of these nodes conflict
abbrev pub NoneConflict : Program → List ℕ → Type 0
NoneConflict p nodes = (m n : ℕ) → Contains nodes m → Contains nodes n → ¬ WriteConflict p m n

-- no two inits of variable x conflict, and no two updates
pub record NoConflictOn (p : Program) (x : ℕ) : Type 0 where
  pub inits : (m n : ℕ) → InitsAt p x m → InitsAt p x n → ¬ WriteConflict p m n
  pub updates : (m n : ℕ) → UpdatesAt p x m → UpdatesAt p x n → ¬ WriteConflict p m n
