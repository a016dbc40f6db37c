-- No priority is greater than the greatest of the tables; so all lines are within it.
use Rattle.std.proofs.Common.{ℕ, zero, suc, ◌≤◌, max, List, [], ◌∷◌, slice_index, arith}
use Rattle.std.proofs.Math.Nat.{le-max_left, le-max_right}
use Rattle.sc_graph.specs.declared.control.Control.{Control}
use Rattle.sc_graph.specs.declared.control.Status.{Status}
use Rattle.sc_graph.specs.declared.control.Status.TheVariants as status
use Rattle.sc_graph.specs.declared.tables.Tables.{Tables}
use Rattle.sc_graph.specs.Control.{status_of}
use Rattle.sc_graph.specs.Program.{Program}
use Rattle.sc_graph.specs.Tables.{priority_of}
use Rattle.preemption_laws.proofs.LinesAhead.{LowAhead, LowOnceStepped}

abbrev pub greatest_of : List ℕ → ℕ
greatest_of [] = 0
greatest_of (x ∷ xs) = max x (greatest_of xs)

pub within_greatest : (xs : List ℕ) (n : ℕ) → slice_index xs n ≤ greatest_of xs
within_greatest [] n = omega arith
within_greatest (x ∷ xs) zero = le-max_left x (greatest_of xs)
within_greatest (x ∷ xs) (suc n) =
    let rest = within_greatest xs n in let more = le-max_right x (greatest_of xs) in omega (rest, more, arith)

abbrev pub greatest_priority : Tables → ℕ
greatest_priority q = greatest_of q.priorities

status_within : (q : Tables) (s : Status) → priority_of q s ≤ greatest_priority q
status_within q (status.At n) = within_greatest q.priorities n
status_within q (status.Waiting j) = within_greatest q.priorities j
status_within q (status.Paused d) = omega arith
status_within q status.Absent = omega arith
status_within q status.Ended = omega arith

pub all_ahead : (p : Program) (q : Tables) (a : ℕ) (m : Control) → LowAhead p q (greatest_priority q) a m
all_ahead p q a m run n leads u line on = status_within q (status_of n u)

pub all_once_stepped : (p : Program) (q : Tables) (a : ℕ) (m : Control) → LowOnceStepped p q (greatest_priority q) a m
all_once_stepped p q a m run n leads has u line on = status_within q (status_of n u)
