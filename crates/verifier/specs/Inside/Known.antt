-- What is made once of a program for all rules.
use Rattle.std.specs.Prelude.{◌≡◌}
use Rattle.sc_graph.specs.declared.tables.Tables.{Tables}
use Rattle.sc_graph.specs.Program.{Program, kinds}
use Rattle.sc_graph.specs.Links.{Tells}
use Rattle.verifier.specs.declared.known.Known.{Known}
use Rattle.program_edges.specs.Users.{UsersOf}
use Rattle.verifier.specs.Inside.Chosen.{ExtremesOf}

pub record KnownOf (p : Program) (q : Tables) (k : Known) : Type 0 where
  pub links : Tells p k.links
  pub kinds : k.kinds ≡ kinds p
  pub users : UsersOf p k.users
  pub extremes : ExtremesOf p q k.users k.extremes
