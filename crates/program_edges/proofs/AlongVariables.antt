-- A table that falls along the protocol edges about each variable falls along all.
use Rattle.std.proofs.Common.{ℕ, ◌<◌, List, length}
use Rattle.std.specs.Prelude.{slice_index}
use Rattle.sc_values.specs.Access.{Precedes, init_update, init_read, update_read}
use Rattle.sc_graph.specs.Program.{Program}
use Rattle.sc_graph.specs.Valid.{IsFormed}
use Rattle.sc_graph.specs.Accesses.{accesses}
use Rattle.sc_graph.specs.Protocol.{ProtocolEdge}
use Rattle.program_edges.specs.Users.{InitsAt, UpdatesAt, ReadsAt, Lists}
use Rattle.program_edges.proofs.Variables.{init_variable, update_variable}
use Rattle.program_edges.specs.AlongVariables.{FallsTo, AllFall, FallsOn}

pub falls_on : (p : Program) (q : List ℕ) (x : ℕ) (inits updates reads : List ℕ) → Lists inits (InitsAt p x) → Lists updates (UpdatesAt p x) →
    Lists reads (ReadsAt p x) →
    AllFall p q inits updates → AllFall p q inits reads → AllFall p q updates reads → FallsOn p q x
falls_on p q x inits updates reads i u l iu il ul = record {
  init_update = λ m n a b. iu m n (i.each m a) (u.each n b);
  init_read = λ m n a b. il m n (i.each m a) (l.each n b);
  update_read = λ m n a b. ul m n (u.each m a) (l.each n b);
}

pub falls_along : (p : Program) (q : List ℕ) → IsFormed p → ((x : ℕ) → x < length p.variables → FallsOn p q x) →
    (m n : ℕ) → ProtocolEdge p m n → slice_index q n < slice_index q m
falls_along p q formed h m n edge = (over edge.precedes).falls edge.concurrent
  where
    over : Precedes (accesses p m) (accesses p n) → FallsTo p q m n
    over (init_update x f i u) = (h x (init_variable p formed m x i)).init_update m n i (f, u)
    over (init_read x i l) = (h x (init_variable p formed m x i)).init_read m n i l
    over (update_read x f u l) = (h x (update_variable p formed m x f u)).update_read m n (f, u) l
