-- How many children of a fork have not ended, counted for the thread that waits for them.
use Rattle.std.specs.Prelude.{ℕ, ◌≡◌, ◌-◌, not, Bool, Option, Some, None, List, length, count_by, slice_index, slice_set}
use Rattle.sc_graph.specs.declared.control.Control.{Control}
use Rattle.sc_graph.specs.declared.control.Status.{Status}
use Rattle.sc_graph.specs.declared.control.Status.TheVariants as status
use Rattle.sc_graph.specs.Program.{Program, parent_of}
use Rattle.sc_graph.specs.Control.{status_of, has_ended, joined_at}

abbrev pub lives : Control → ℕ → Bool
lives c t = not (has_ended (status_of c t))

-- how many of these children live; who waits without a fork waits on
abbrev pub living : Control → Option (List ℕ) → ℕ
living c None = 1
living c (Some children) = count_by (lives c) children

-- of each thread that waits, how many children live for whom it waits
pub record CountsLiving (p : Program) (c : Control) (counts : List ℕ) : Type 0 where
  pub long : length counts ≡ length p.threads
  pub each : (t j : ℕ) → status_of c t ≡ status.Waiting j → slice_index counts t ≡ living c (joined_at p j)

abbrev pub one_less : List ℕ → Option ℕ → List ℕ
one_less counts None = counts
one_less counts (Some t) = slice_set counts t (slice_index counts t - 1)

-- with thread t counted that came to stand so: who waits has its children counted anew, and who ended lives no more
abbrev pub counted_at : Program → Control → List ℕ → ℕ → Status → List ℕ
counted_at p c counts t (status.Waiting j) = slice_set counts t (living c (joined_at p j))
counted_at p c counts t status.Ended = one_less counts (parent_of p t)
counted_at p c counts t other = counts
