-- Images: a program with its tables.
use Rattle.sc_graph.specs.Program.{Program}
use Rattle.sc_graph.specs.declared.tables.Tables.{Tables}

pub record Image : Type 0 where
  pub program : Program
  pub tables : Tables
