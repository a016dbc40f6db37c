-- What the protocol edges of a program are found by.
use Rattle.sc_graph.specs.Links.{Tells}
use Rattle.sc_graph.specs.Program.{Program}
use Rattle.sc_graph.specs.declared.links.Links.{Links}
use Rattle.sc_graph.specs.Valid.{IsFormed}
use Rattle.program_edges.specs.declared.users.Users.{Users}
use Rattle.program_edges.specs.Users.{UsersOf}

-- of a formed program its links, and the users of its variables
pub record AreHeld (p : Program) (links : Links) (users : Users) : Type 0 where
  pub formed : IsFormed p
  pub told : Tells p links
  pub used : UsersOf p users
