-- Statements in which each holds what follows it: what a thread still has to do. Each bears the number of its
-- node and each branch that of its thread, by which they are told apart; no step looks at them.
use Rattle.std.specs.Prelude.{ℕ, List}
use Rattle.sc_values.specs.declared.expression.Expr.{Expr}

mutual
  -- what is still to be done, up to the end of the thread
  pub data Block : Type 0 where
    -- the end of the thread, at node n
    End : (n : ℕ) → Block
    -- x becomes the value of e
    Assign : (n x : ℕ) (e : Expr) (rest : Block) → Block
    Label : (name : List ℕ) (rest : Block) → Block
    -- the goto of number g in the text; the rest is reached from labels alone
    Goto : (g : ℕ) (name : List ℕ) (rest : Block) → Block
    -- its surface is node n, its depth the next one
    Pause : (n : ℕ) (rest : Block) → Block
    -- both lists go on with the rest; the ends of the lists themselves are not reached
    If : (n : ℕ) (e : Expr) (first second rest : Block) → Block
    -- its fork is node n, its join the next one
    Fork : (n : ℕ) (branches : Branches) (rest : Block) → Block

  -- the branches of a fork: each with the number of its thread and what that has to do
  pub data Branches : Type 0 where
    NoMore : Branches
    Branch : (t : ℕ) (body : Block) (more : Branches) → Branches
