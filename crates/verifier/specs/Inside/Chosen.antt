-- What is chosen, for each variable, of the nodes that use it.
use Rattle.std.specs.Prelude.{ℕ, List, [], length, get_or}
use Rattle.sc_graph.specs.declared.tables.Tables.{Tables}
use Rattle.sc_graph.specs.Program.{Program}
use Rattle.verifier.specs.declared.extremes.Extremes.{Extremes}
use Rattle.program_edges.specs.declared.extremes.Extreme.TheVariants as extreme
use Rattle.program_edges.specs.declared.users.Users.{Users}
use Rattle.program_edges.specs.Extremes.{StandFor}
use Rattle.verifier.specs.Inside.Each.{EachOf}

pub record ExtremesOf (p : Program) (q : Tables) (u : Users) (e : Extremes) : Type 0 where
  pub least_inits : EachOf (StandFor p q.priorities extreme.Least) (length p.variables) u.inits e.least_inits
  pub least_updates : EachOf (StandFor p q.priorities extreme.Least) (length p.variables) u.updates e.least_updates
  pub greatest_updates : EachOf (StandFor p q.priorities extreme.Greatest) (length p.variables) u.updates e.greatest_updates
  pub greatest_reads : EachOf (StandFor p q.priorities extreme.Greatest) (length p.variables) u.reads e.greatest_reads

-- so for one variable, over the lists of its inits, updates and reads
pub record StandOver (p : Program) (q : Tables) (e : Extremes) (x : ℕ) (inits updates reads : List ℕ) : Type 0 where
  pub least_inits : StandFor p q.priorities extreme.Least inits (get_or e.least_inits x [])
  pub least_updates : StandFor p q.priorities extreme.Least updates (get_or e.least_updates x [])
  pub greatest_updates : StandFor p q.priorities extreme.Greatest updates (get_or e.greatest_updates x [])
  pub greatest_reads : StandFor p q.priorities extreme.Greatest reads (get_or e.greatest_reads x [])
