-- The edges along which tables are asked to fall: where threads go on within one tick, and the order of priorities.
use Rattle.std.specs.Prelude.{ℕ, ◌≡◌, ◌⊎◌, true, Some, List, Contains}
use Rattle.sc_graph.specs.declared.program.Step.{Step}
use Rattle.sc_graph.specs.declared.program.Step.TheVariants as step
use Rattle.sc_graph.specs.declared.tables.Tables.{Tables}
use Rattle.sc_graph.specs.declared.place.Place.{Place}
use Rattle.sc_graph.specs.Program.{Program, step_at}
use Rattle.sc_graph.specs.Protocol.{Instant, ProtocolEdge, successors}
use Rattle.sc_graph.specs.Costs.{EndBitAt, entries_end}
use Rattle.least_or_cycle.specs.Walks.{IsCycle}

-- all these threads may end in the tick in which they are forked: all tables that keep the end-bit rule say so
pub record MayAllEnd (p : Program) (children : List ℕ) : Type 0 where
  pub said : (q : Tables) → ((at : Place) → EndBitAt p q at) → entries_end p q children ≡ true

-- a thread may go on from node m to node n in one tick: to a successor, or over a fork whose children may all end at once
pub data GoesOn (p : Program) (m n : ℕ) : Type 0 where
  to_successor : (s : Step) → step_at p m ≡ Some s → Contains (successors s) n → GoesOn p m n
  over_fork : (children : List ℕ) → step_at p m ≡ Some (step.Fork children n) → MayAllEnd p children → GoesOn p m n

-- each such edge has weight 1
abbrev pub InTick : Program → ℕ → ℕ → ℕ → Type 0
InTick p m n w = GoesOn p m n × (w ≡ 1)

-- an instantaneous edge has weight 0, and a protocol edge weight 1
abbrev pub InOrder : Program → ℕ → ℕ → ℕ → Type 0
InOrder p m n w = (Instant p m n × (w ≡ 0)) ⊎ (ProtocolEdge p m n × (w ≡ 1))

-- a closed walk along which threads go on within one tick
abbrev pub IsInstantLoop : Program → List ℕ → Type 0
IsInstantLoop p walk = IsCycle (InTick p) walk

-- a closed walk along instantaneous and protocol edges, with a protocol edge
abbrev pub IsOrderCycle : Program → List ℕ → Type 0
IsOrderCycle p walk = IsCycle (InOrder p) walk

-- neither
pub record HasNoWalk (p : Program) : Type 0 where
  pub no_loop : (walk : List ℕ) → ¬ IsInstantLoop p walk
  pub no_cycle : (walk : List ℕ) → ¬ IsOrderCycle p walk
