-- The links of a formed program.
use Rattle.sc_graph.specs.declared.links.Links.{Links}
use Rattle.sc_graph.specs.Program.{Program}
use Rattle.sc_graph.specs.Links.{Tells}
use Rattle.sc_graph.specs.Valid.{IsFormed}

pub record IsLinked (p : Program) (l : Links) : Type 0 where
  pub formed : IsFormed p
  pub told : Tells p l
