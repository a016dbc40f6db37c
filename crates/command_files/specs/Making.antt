-- Whether a text makes a program of nodes, and why it does not.
use Rattle.std.specs.Prelude.{ℕ, ◌≢◌, ◌⊎◌, List}
use Rattle.sc_graph.specs.Program.{Program}
use Rattle.compiler.specs.Graphs.{Makes, MakesNone}

-- the text makes another program
pub record MakesOther (text : List ℕ) (p : Program) : Type 0 where
  pub other : Program
  pub made : Makes text other
  pub differs : other ≢ p

-- why a text does not make a program: it makes none, or another one
abbrev pub IsUnmade : List ℕ → Program → Type 0
IsUnmade text p = MakesNone text ⊎ MakesOther text p
