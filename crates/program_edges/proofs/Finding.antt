-- What is found variable by variable holds of every pair of nodes.
use Rattle.std.proofs.Common.{ℕ, ◌<◌, Option, Some, None, length}
use Rattle.std.specs.Prelude.{MatchOption}
use Rattle.sc_values.specs.Access.{Clash, two_inits, two_updates}
use Rattle.sc_graph.specs.Program.{Program}
use Rattle.sc_graph.specs.Valid.{IsFormed}
use Rattle.sc_graph.specs.Accesses.{accesses}
use Rattle.sc_graph.specs.Protocol.{WriteConflict}
use Rattle.program_edges.specs.Inside.NoConflicts.{NoConflictOn}
use Rattle.program_edges.proofs.Variables.{init_variable, update_variable}
use Rattle.program_edges.specs.Conflicts.{HasNoConflict}

-- the answer of a helper, said in other words
pub answer_turned : {T : Type 0} (r : Option T) (P P' : Type 0) (Q Q' : T → Type 0) → (P → P') → ((t : T) → Q t → Q' t) → MatchOption r P Q
    → MatchOption r P' Q'
answer_turned None P P' Q Q' f g h = f h
answer_turned (Some t) P P' Q Q' f g h = g t h

pub no_conflicts : (p : Program) → IsFormed p → ((x : ℕ) → x < length p.variables → NoConflictOn p x) → HasNoConflict p
no_conflicts p formed h = record { none = λ m n w. over m n w w.clash }
  where
    over : (m n : ℕ) → WriteConflict p m n → Clash (accesses p m) (accesses p n) → ⊥
    over m n w (two_inits x i j apart) = (h x (init_variable p formed m x i)).inits m n i j w
    over m n w (two_updates x f g u v ne) = (h x (update_variable p formed m x f u)).updates m n (f, u) (g, v) w
