-- Where two threads part in the tree of threads.
use Rattle.std.specs.Prelude.{ℕ, ◌≡◌, ◌≢◌, Some}
use Rattle.sc_graph.specs.Program.{Program, parent_of}
use Rattle.sc_graph.specs.Threads.{Below}
use Rattle.sc_graph.specs.Structure.{ForksChild}

-- threads t and u are, or descend from, two different children, left and right, of one thread
pub record PartAt (p : Program) (t u left right parent : ℕ) : Type 0 where
  pub left_parent : parent_of p left ≡ Some parent
  pub right_parent : parent_of p right ≡ Some parent
  pub differ : left ≢ right
  pub t_below : Below p t left
  pub u_below : Below p u right

-- threads t and u are children of one fork
pub record OneFork (p : Program) (t u : ℕ) : Type 0 where
  pub fork : ℕ
  pub first : ForksChild p t fork
  pub second : ForksChild p u fork
