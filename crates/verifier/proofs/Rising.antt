-- Priority rises along no edge where it rises along none from each node.
use Rattle.std.proofs.Common.{ℕ, ◌<◌, ◌≤◌, length, arith}
use Rattle.sc_graph.specs.declared.place.Place.{Place}
use Rattle.sc_graph.specs.declared.place.Place.TheVariants as place
use Rattle.sc_graph.specs.declared.tables.Tables.{Tables}
use Rattle.sc_graph.specs.declared.program.Step.TheVariants as step
use Rattle.sc_graph.specs.Program.{Program}
use Rattle.sc_graph.specs.Tables.{priority}
use Rattle.sc_graph.specs.Protocol.{FlowAt, Instant, by_successor, by_entry, by_exit}
use Rattle.sc_graph.proofs.Nodes.{step_within}
use Rattle.verifier.specs.Inside.ByNode.{FlowsFrom}

-- an edge leads from a node of the program
from_node : (p : Program) (m n : ℕ) → Instant p m n → m < length p.nodes
from_node p m n (by_successor s at among) = step_within p m s at
from_node p m n (by_entry t children j k fork among entry) = step_within p m (step.Fork children j) fork.forks
from_node p m n (by_exit f t children k fork among owner at) = step_within p m step.Exit at

not_less : (a b : ℕ) → ¬ (a < b) → b ≤ a
not_less a b h = grind arith

pub flows_from : (p : Program) (q : Tables) (m : ℕ) → ((n : ℕ) → Instant p m n → ¬ (priority q m < priority q n)) → FlowsFrom p q m
flows_from p q m h = record { each = λ n edge. not_less (priority q m) (priority q n) (h n edge) }

pub flows_kept : (p : Program) (q : Tables) → ((m : ℕ) → m < length p.nodes → FlowsFrom p q m) → (at : Place) → FlowAt p q at
flows_kept p q h place.Image = tt
flows_kept p q h (place.Variable x) = tt
flows_kept p q h (place.Thread t) = tt
flows_kept p q h (place.Node n) = tt
flows_kept p q h (place.Pair m n) = λ edge. (h m (from_node p m n edge)).each n edge

pub rise_breaks : (p : Program) (q : Tables) (m n : ℕ) → Instant p m n → priority q m < priority q n → ¬ FlowAt p q (place.Pair m n)
rise_breaks p q m n edge rises kept = let flows = kept edge in omega (arith, rises, flows)
