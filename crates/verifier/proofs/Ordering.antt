-- The rules of pairs, variable by variable, are the rules at every pair.
use Rattle.std.proofs.Common.{ℕ, ◌≡◌, ◌<◌, List, length, subst}
use Rattle.sc_values.specs.Access.{Precedes, init_update, init_read, update_read}
use Rattle.sc_graph.specs.declared.place.Place.{Place}
use Rattle.sc_graph.specs.declared.place.Place.TheVariants as place
use Rattle.sc_graph.specs.declared.tables.Tables.{Tables}
use Rattle.sc_graph.specs.Program.{Program}
use Rattle.sc_graph.specs.Valid.{IsFormed}
use Rattle.sc_graph.specs.Accesses.{accesses}
use Rattle.sc_graph.specs.Protocol.{NoConflictAt, ProtocolAt}
use Rattle.program_edges.specs.Conflicts.{HasNoConflict}
use Rattle.program_edges.specs.Users.{InitsAt, UpdatesAt, ReadsAt, Lists}
use Rattle.program_edges.specs.AlongVariables.{FallsTo, FallsOn}
use Rattle.verifier.specs.Inside.Pairs.{NoFallBetween}
use Rattle.program_edges.proofs.AlongVariables.{falls_along}

pub no_conflicts_kept : (p : Program) → HasNoConflict p → (at : Place) → NoConflictAt p at
no_conflicts_kept p h place.Image = tt
no_conflicts_kept p h (place.Variable x) = tt
no_conflicts_kept p h (place.Thread t) = tt
no_conflicts_kept p h (place.Node n) = tt
no_conflicts_kept p h (place.Pair m n) = h.none m n

no_fall_breaks : (p : Program) (q : Tables) (m n : ℕ) (at : Place) → at ≡ place.Pair m n → ¬ FallsTo p q.priorities m n → Precedes (accesses p m) (accesses p n)
    → ¬ ProtocolAt p q at
no_fall_breaks p q m n at is rises before kept =
    let P : Place → Type 0 = λ a. ProtocolAt p q a in
    rises (record { falls = λ concurrent. (subst P is kept) (record { concurrent = concurrent; precedes = before }) })

pub init_update_breaks : (p : Program) (q : Tables) (x : ℕ) (inits updates : List ℕ) → Lists inits (InitsAt p x) → Lists updates (UpdatesAt p x) → (at : Place)
    → NoFallBetween p q inits updates at → ¬ ProtocolAt p q at
init_update_breaks p q x inits updates i u at r =
    let w = u.only r.second r.in_seconds in
    no_fall_breaks p q r.first r.second at r.is r.no_fall (init_update x w.0 (i.only r.first r.in_firsts) w.1)

pub init_read_breaks : (p : Program) (q : Tables) (x : ℕ) (inits reads : List ℕ) → Lists inits (InitsAt p x) → Lists reads (ReadsAt p x) → (at : Place)
    → NoFallBetween p q inits reads at → ¬ ProtocolAt p q at
init_read_breaks p q x inits reads i l at r =
    no_fall_breaks p q r.first r.second at r.is r.no_fall (init_read x (i.only r.first r.in_firsts) (l.only r.second r.in_seconds))

pub update_read_breaks : (p : Program) (q : Tables) (x : ℕ) (updates reads : List ℕ) → Lists updates (UpdatesAt p x) → Lists reads (ReadsAt p x) → (at : Place)
    → NoFallBetween p q updates reads at → ¬ ProtocolAt p q at
update_read_breaks p q x updates reads u l at r =
    let w = u.only r.first r.in_firsts in
    no_fall_breaks p q r.first r.second at r.is r.no_fall (update_read x w.0 w.1 (l.only r.second r.in_seconds))

pub falls_kept : (p : Program) (q : Tables) → IsFormed p → ((x : ℕ) → x < length p.variables → FallsOn p q.priorities x) → (at : Place) → ProtocolAt p q at
falls_kept p q formed h place.Image = tt
falls_kept p q formed h (place.Variable x) = tt
falls_kept p q formed h (place.Thread t) = tt
falls_kept p q formed h (place.Node n) = tt
falls_kept p q formed h (place.Pair m n) = λ edge. falls_along p q.priorities formed h m n edge
