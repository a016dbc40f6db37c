-- The points of a text, numbered from 0 in its order: the statements, each before those in it, and the end of each
-- thread, behind its statements. The last point is the end of the first thread.
use Rattle.std.specs.Prelude.{ℕ, List, [], ◌∷◌, ◌++◌, map}
use Rattle.sc_values.specs.declared.expression.Expr.{Expr}
use Rattle.scl.specs.declared.statement.Statement.{Statement}
use Rattle.scl.specs.declared.statement.Statement.TheOpen.{Statement-F}
use Rattle.scl.specs.declared.statement.Statement.TheOpen as text
use Rattle.scl.specs.declared.statement.Statement.TheFolds.{fold-Statement}

-- what is done at a point
pub data Point : Type 0 where
  -- x becomes the value of e
  Assigns : (x : ℕ) (e : Expr) → Point
  -- a label, and a goto
  Marks : (name : List ℕ) → Point
  Jumps : (name : List ℕ) → Point
  Pauses : Point
  Tests : (e : Expr) → Point
  Forks : Point
  -- the end of a thread
  Ends : Point

abbrev pub in_row : List (List Point) → List Point
in_row [] = []
in_row (p ∷ pieces) = p ++ in_row pieces

-- the branches of a fork
abbrev pub in_branches : List (List (List Point)) → List Point
in_branches [] = []
in_branches (b ∷ branches) = in_row b ++ Ends ∷ in_branches branches

abbrev pub points : Statement-F (List Point) → List Point
points (text.Assign x e) = Assigns x e ∷ []
points (text.Label name) = Marks name ∷ []
points (text.Goto name) = Jumps name ∷ []
points text.Pause = Pauses ∷ []
points (text.If e a b) = Tests e ∷ in_row a ++ in_row b
points (text.Fork branches) = Forks ∷ in_branches branches

abbrev pub points_of : Statement → List Point
points_of = fold-Statement (List Point) points

-- those of a whole text
abbrev pub text_points : List Statement → List Point
text_points statements = in_row (map points_of statements) ++ Ends ∷ []
