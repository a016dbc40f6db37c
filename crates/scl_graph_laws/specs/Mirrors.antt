-- What makes a program of nodes the graph of a text: each place has its nodes, each branch its thread, and nothing else
-- forks.
use Rattle.std.specs.Prelude.{ℕ, suc, ◌≡◌, Some, List, length, slice_get}
use Rattle.sc_values.specs.Expr.{postorder}
use Rattle.sc_values.specs.Assignment.{assignment_of}
use Rattle.sc_graph.specs.declared.program.Step.{Step}
use Rattle.sc_graph.specs.declared.program.Step.TheVariants as step
use Rattle.sc_graph.specs.Program.{Program, parent_of, entry_of}
use Rattle.sc_graph.specs.Control.{joined_at}
use Rattle.sc_graph.specs.Threads.{IsFork}
use Rattle.scl.specs.Block.{Block, End, Assign, Label, Goto, Pause, If, Fork, Branches}
use Rattle.scl.specs.Labels.{before, settled}
use Rattle.scl.specs.Places.{Place, IsBranch, IsChild, threads_of}
use Rattle.scl.specs.Numbering.{Numbered}
use Rattle.scl_graph.specs.Graph.{assigns, node, number}

-- the node at which a thread comes to stand that has this to do
abbrev pub leads : Block → Block → ℕ
leads root todo = number (settled root todo)

pub record HasNode (q : Program) (n t : ℕ) (s : Step) : Type 0 where
  pub is : slice_get q.nodes n ≡ Some (node t s)

-- two nodes in a row
pub record HasNodes (q : Program) (n t : ℕ) (s r : Step) : Type 0 where
  pub first : HasNode q n t s
  pub second : HasNode q (suc n) t r

-- a fork and its join, which no other fork has
pub record HasFork (q : Program) (n t : ℕ) (children : List ℕ) (onward : ℕ) : Type 0 where
  pub nodes : HasNodes q n t (step.Fork children (suc n)) (step.Join onward)
  pub joined : joined_at q (suc n) ≡ Some children

-- the nodes of the first statement
abbrev pub HasFirst : Program → Block → ℕ → Block → Type 0
HasFirst q root t (End n) = HasNode q n t step.Exit
HasFirst q root t (Assign n x e rest) = HasNode q n t (assigns x (assignment_of x e) (leads root rest))
HasFirst q root t (Label name rest) = Unit {0}
HasFirst q root t (Goto g name rest) = Unit {0}
HasFirst q root t (Pause n rest) = HasNodes q n t (step.Surf (suc n)) (step.Depth (leads root rest))
HasFirst q root t (If n e a b rest) = HasNode q n t (step.Cond (postorder e) (leads root (before a rest)) (leads root (before b rest)))
HasFirst q root t (Fork n branches rest) = HasFork q n t (threads_of branches) (leads root rest)

-- a fork of the text with these children
pub record ForkPlace (root : Block) (t : ℕ) (children : List ℕ) : Type 0 where
  pub fork : ℕ
  pub branches : Branches
  pub rest : Block
  pub place : Place root t (Fork fork branches rest)
  pub children_are : threads_of branches ≡ children

pub record Mirrors (p : Numbered) (q : Program) : Type 0 where
  pub variables : q.variables ≡ p.variables
  pub threads : length q.threads ≡ p.threads
  pub root : entry_of q 0 ≡ Some (leads p.root p.root)
  pub nodes : (t : ℕ) (todo : Block) → Place p.root t todo → HasFirst q p.root t todo
  pub entries : (t n u : ℕ) (branches : Branches) (body rest : Block) → Place p.root t (Fork n branches rest) → IsBranch branches u body
      → entry_of q u ≡ Some (leads p.root body)
  -- the tree of threads, there and back
  pub parents : (u t : ℕ) → IsChild p.root u t → parent_of q u ≡ Some t
  pub children : (u t : ℕ) → parent_of q u ≡ Some t → IsChild p.root u t
  pub forks : (n t : ℕ) (children : List ℕ) (join : ℕ) → IsFork q n t children join → ForkPlace p.root t children
