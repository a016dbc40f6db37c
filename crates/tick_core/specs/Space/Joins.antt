-- The fork of each join, noted once for a program.
use Rattle.std.specs.Prelude.{ℕ, ◌≡◌, ◌<◌, length, take, IsSome, Option, Some, None, List, slice_get, slice_set, option_and_then}
use Rattle.sc_graph.specs.Program.{Program, step_at}
use Rattle.sc_graph.specs.Control.{joined_by, joined_among, joined_at}
use Rattle.sc_graph.specs.declared.program.Step.{Step}
use Rattle.sc_graph.specs.declared.program.Step.TheVariants as step

-- the children of the fork that is noted for the join j
abbrev pub noted_children : Program → ℕ → Option (Option ℕ) → Option (List ℕ)
noted_children p j None = None
noted_children p j (Some None) = None
noted_children p j (Some (Some n)) = option_and_then (joined_by j) (step_at p n)

-- for each join its fork is noted
pub record FindsForks (p : Program) (forks : List (Option ℕ)) : Type 0 where
  pub each : (j : ℕ) → noted_children p j (slice_get forks j) ≡ joined_at p j

abbrev pub noted_at : List (Option ℕ) → ℕ → ℕ → Option (Option ℕ) → List (Option ℕ)
noted_at forks j n (Some None) = slice_set forks j (Some n)
noted_at forks j n other = forks

-- with the fork n noted for the join j, where none was noted before
abbrev pub noted : List (Option ℕ) → ℕ → ℕ → List (Option ℕ)
noted forks j n = noted_at forks j n (slice_get forks j)

-- the same for a node, where it is a fork
abbrev pub noted_step : List (Option ℕ) → ℕ → Option Step → List (Option ℕ)
noted_step forks n (Some (step.Fork children join)) = noted forks join n
noted_step forks n other = forks

-- among the first n nodes the fork of each join is noted
pub record FindsBelow (p : Program) (forks : List (Option ℕ)) (n : ℕ) : Type 0 where
  pub long : length forks ≡ length p.nodes
  pub each : (j : ℕ) → j < length p.nodes → noted_children p j (slice_get forks j) ≡ joined_among j (take n p.nodes)
  pub forking : (j m : ℕ) → slice_get forks j ≡ Some (Some m) → IsSome (noted_children p j (Some (Some m)))
