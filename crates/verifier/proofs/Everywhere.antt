-- A rule about nodes that is kept at each node is kept at every place.
use Rattle.std.proofs.Common.{ℕ, ◌<◌, ◌≤◌, length}
use Rattle.sc_graph.specs.declared.place.Place.{Place}
use Rattle.sc_graph.specs.declared.place.Place.TheVariants as place
use Rattle.sc_graph.specs.declared.tables.Tables.{Tables}
use Rattle.sc_graph.specs.Program.{Program}
use Rattle.sc_graph.specs.Costs.{WeightAt}
use Rattle.sc_graph.specs.Size.{SizeAt, ProgramFitsAt}
use Rattle.sc_graph.specs.Limits.{budget_limit}
use Rattle.sc_graph.specs.Codes.{CodeAt, AssignmentAt}
use Rattle.sc_graph.proofs.Nodes.{step_within}

pub weights_kept : (p : Program) (q : Tables) → ((n : ℕ) → n < length p.nodes → WeightAt p q (place.Node n)) → (at : Place) → WeightAt p q at
weights_kept p q h place.Image = tt
weights_kept p q h (place.Variable x) = tt
weights_kept p q h (place.Thread t) = tt
weights_kept p q h (place.Node n) = λ s e. h n (step_within p n s e) s e
weights_kept p q h (place.Pair m n) = tt

pub codes_kept : (p : Program) → ((n : ℕ) → n < length p.nodes → CodeAt p (place.Node n)) → (at : Place) → CodeAt p at
codes_kept p h place.Image = tt
codes_kept p h (place.Variable x) = tt
codes_kept p h (place.Thread t) = tt
codes_kept p h (place.Node n) = λ s e. h n (step_within p n s e) s e
codes_kept p h (place.Pair m n) = tt

pub assignments_kept : (p : Program) → ((n : ℕ) → n < length p.nodes → AssignmentAt p (place.Node n)) → (at : Place) → AssignmentAt p at
assignments_kept p h place.Image = tt
assignments_kept p h (place.Variable x) = tt
assignments_kept p h (place.Thread t) = tt
assignments_kept p h (place.Node n) = λ s e. h n (step_within p n s e) s e
assignments_kept p h (place.Pair m n) = tt

pub sizes_kept : (p : Program) (q : Tables) → ((at : Place) → ProgramFitsAt p at) → q.budget ≤ budget_limit → (at : Place) → SizeAt p q at
sizes_kept p q h b place.Image = (h place.Image, b)
sizes_kept p q h b (place.Variable x) = (h (place.Variable x), tt)
sizes_kept p q h b (place.Thread t) = (h (place.Thread t), tt)
sizes_kept p q h b (place.Node n) = (h (place.Node n), tt)
sizes_kept p q h b (place.Pair m n) = (h (place.Pair m n), tt)
