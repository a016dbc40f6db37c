-- The links of a formed program, and of a valid one.
use Rattle.sc_graph.specs.declared.links.Links.{Links}
use Rattle.sc_graph.specs.declared.tables.Tables.{Tables}
use Rattle.sc_graph.specs.Program.{Program}
use Rattle.sc_graph.specs.Links.{Tells}
use Rattle.sc_graph.specs.Valid.{IsFormed, IsValid}

pub record IsLinked (p : Program) (l : Links) : Type 0 where
  pub formed : IsFormed p
  pub told : Tells p l

pub record IsValidLinked (p : Program) (q : Tables) (l : Links) : Type 0 where
  pub valid : IsValid p q
  pub told : Tells p l
