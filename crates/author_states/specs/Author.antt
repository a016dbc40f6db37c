-- What the states of a chart are to the author of the extended chart that is reduced to it. A state of his is one of the
-- reduced chart's, by its name; those that reductions make stand for none: what stands before a state and behind it, what
-- holds the regions of a chart or of a superstate, what waits for the trigger of a termination, and the states of regions
-- that reductions add. So where one of these rests nothing is told of it, and the author's states around it are told.
use Rattle.std.specs.Prelude.{ℕ, Option, None, List, map, slice_get, unwrap_or, option_and_then}
use Rattle.extended_charts.specs.declared.extended.ExtendedChart.{ExtendedChart}
use Rattle.chart_reduction.specs.Reduction.{with_entry}
use Rattle.chart_reduction.specs.Rows.{rows_of}
use Rattle.author_states.specs.Paths.{paths_of}

-- the paths of his states, numbered from 0 in the order of his text; and for each state of the reduced chart, in the order
-- of its text, the number of the one for which it stands, if for one
pub record AuthorsStates : Type 0 where
  pub paths : List (List ℕ)
  pub stand : List (Option ℕ)

abbrev pub author_states : ExtendedChart → AuthorsStates
author_states c = record { paths = paths_of c; stand = (rows_of (with_entry c).regions).states }

-- the state of his for which the state of this number of the reduced chart stands, if there is one
abbrev pub author_state : (stand : List (Option ℕ)) → ℕ → Option ℕ
author_state stand n = unwrap_or (slice_get stand n) None

-- its path
abbrev pub author_path : AuthorsStates → ℕ → Option (List ℕ)
author_path a n = option_and_then (slice_get a.paths) (author_state a.stand n)

-- for which states of his nodes stand, where they stand for these of the reduced chart's
abbrev pub author_nodes : (stand nodes : List (Option ℕ)) → List (Option ℕ)
author_nodes stand nodes = map (option_and_then (author_state stand)) nodes
