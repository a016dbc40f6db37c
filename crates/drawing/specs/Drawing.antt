-- How each drawing begins and ends.
use Rattle.std.specs.Prelude.{ℕ, ◌≡◌, List, ◌++◌, codes}

-- a Graphviz text of a graph of this name, which stands in quotes. What stands in it is left open
pub record IsDrawing (name text : List ℕ) : Type 0 where
  pub body : List ℕ
  pub is : text ≡ codes "digraph \"" ++ (name ++ (codes "\" {\n" ++ (body ++ codes "}\n")))
