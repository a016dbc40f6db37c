-- What stands at a number in the tables. Past their ends it is 0, or false.
use Rattle.std.specs.Prelude.{ℕ, Bool, ◌≡◌, false, length, slice_get, slice_index, unwrap_or}
use Rattle.sc_graph.specs.declared.control.Status.{Status}
use Rattle.sc_graph.specs.declared.control.Status.TheVariants as status
use Rattle.sc_graph.specs.declared.tables.Tables.{Tables}
use Rattle.sc_graph.specs.Program.{Program}

abbrev pub priority : Tables → ℕ → ℕ
priority q n = slice_index q.priorities n

abbrev pub weight : Tables → ℕ → ℕ
weight q n = slice_index q.weights n

abbrev pub end_bit : Tables → ℕ → Bool
end_bit q n = unwrap_or (slice_get q.end_bits n) false

abbrev pub bound : Tables → ℕ → ℕ
bound q t = slice_index q.bounds t

-- the priority of a thread that stands so: of its node, or of the join at which it waits
abbrev pub priority_of : Tables → Status → ℕ
priority_of q (status.At n) = priority q n
priority_of q (status.Waiting j) = priority q j
priority_of q other = 0

-- a priority, a weight and an end bit for each node, and a bound for each thread
pub record HasLengths (p : Program) (q : Tables) : Type 0 where
  pub priorities : length q.priorities ≡ length p.nodes
  pub weights : length q.weights ≡ length p.nodes
  pub end_bits : length q.end_bits ≡ length p.nodes
  pub bounds : length q.bounds ≡ length p.threads
