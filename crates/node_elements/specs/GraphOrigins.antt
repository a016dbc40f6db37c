-- For each node of the graph of a text, in their order, the point from which it comes: a fold beside that of the graph.
use Rattle.std.specs.Prelude.{ℕ, suc, List, [], ◌∷◌, ◌++◌, map}
use Rattle.scl.specs.declared.statement.Statement.{Statement}
use Rattle.scl.specs.declared.statement.Statement.TheOpen.{Statement-F}
use Rattle.scl.specs.declared.statement.Statement.TheOpen as text
use Rattle.scl.specs.declared.statement.Statement.TheFolds.{fold-Statement}
use Rattle.node_elements.specs.declared.graph.origin.NodeOrigin.{NodeOrigin}
use Rattle.node_elements.specs.declared.graph.origin.NodeOrigin.TheVariants as node

-- a piece of text whose first point has number n: the number behind its points, and the origins of its nodes, in its own
-- thread and in those that it forks
pub record Piece : Type 0 where
  pub behind : (n : ℕ) → ℕ
  pub own : (n : ℕ) → List NodeOrigin
  pub below : (n : ℕ) → List NodeOrigin

-- pieces in a row
abbrev pub behind_row : List Piece → ℕ → ℕ
behind_row [] n = n
behind_row (p ∷ pieces) n = behind_row pieces (p.behind n)

abbrev pub own_row : List Piece → ℕ → List NodeOrigin
own_row [] n = []
own_row (p ∷ pieces) n = p.own n ++ own_row pieces (p.behind n)

abbrev pub below_row : List Piece → ℕ → List NodeOrigin
below_row [] n = []
below_row (p ∷ pieces) n = p.below n ++ below_row pieces (p.behind n)

-- a thread: its end comes last
abbrev pub thread : List Piece → ℕ → List NodeOrigin
thread pieces n = own_row pieces n ++ node.First (behind_row pieces n) ∷ []

-- the branches of a fork, each before what is nested in it
abbrev pub behind_branches : List (List Piece) → ℕ → ℕ
behind_branches [] n = n
behind_branches (b ∷ branches) n = behind_branches branches (suc (behind_row b n))

abbrev pub below_branches : List (List Piece) → ℕ → List NodeOrigin
below_branches [] n = []
below_branches (b ∷ branches) n = thread b n ++ below_row b n ++ below_branches branches (suc (behind_row b n))

-- a point with one node, or two, and nothing in it; one without nodes
abbrev pub one_node : Piece
one_node = record { behind = suc; own = λ n. node.First n ∷ []; below = λ n. [] }

abbrev pub two_nodes : Piece
two_nodes = record { behind = suc; own = λ n. node.First n ∷ node.Second n ∷ []; below = λ n. [] }

abbrev pub no_node : Piece
no_node = record { behind = suc; own = λ n. []; below = λ n. [] }

abbrev pub piece : Statement-F Piece → Piece
piece (text.Assign x e) = one_node
piece (text.Label name) = no_node
piece (text.Goto name) = no_node
piece text.Pause = two_nodes
piece (text.If e a b) =
    record {
      behind = λ n. behind_row b (behind_row a (suc n));
      own = λ n. node.First n ∷ own_row a (suc n) ++ own_row b (behind_row a (suc n));
      below = λ n. below_row a (suc n) ++ below_row b (behind_row a (suc n));
    }
piece (text.Fork branches) =
    record {
      behind = λ n. behind_branches branches (suc n);
      own = λ n. node.First n ∷ node.Second n ∷ [];
      below = λ n. below_branches branches (suc n);
    }

abbrev pub piece_of : Statement → Piece
piece_of = fold-Statement Piece piece

abbrev pub in_text : List Piece → List NodeOrigin
in_text pieces = thread pieces 0 ++ below_row pieces 0

-- the first thread, and behind it those that it forks
abbrev pub node_origins : List Statement → List NodeOrigin
node_origins statements = in_text (map piece_of statements)
