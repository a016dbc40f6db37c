-- The numbers of a program's threads and nodes. Threads are numbered in the order of their branches in the text, a
-- branch before what is nested in it; the root is 0. Nodes are numbered thread by thread in that order, within a
-- thread in the order of its statements, its end last.
use Rattle.std.specs.Prelude.{ℕ, suc, ◌+◌, List, [], ◌∷◌}
use Rattle.sc_graph.specs.declared.program.Variable.{Variable}
use Rattle.scl.specs.declared.program.Scl.{Scl}
use Rattle.scl.specs.declared.statement.Statement.{Statement}
use Rattle.scl.specs.declared.statement.Statement.TheOpen.{Statement-F}
use Rattle.scl.specs.declared.statement.Statement.TheOpen as text
use Rattle.scl.specs.declared.statement.Statement.TheFolds.{fold-Statement}
use Rattle.scl.specs.Block.{Block, Branches, NoMore, Branch}
use Rattle.scl.specs.Block as block

-- how many nodes of its own thread a piece of text has, how many threads below, how many nodes these have, and
-- how many gotos stand in it
pub record Counts : Type 0 where
  pub nodes : ℕ
  pub threads : ℕ
  pub lower : ℕ
  pub gotos : ℕ

-- the numbers that come next: of a node of this thread, of a thread, of that thread's first node, of a goto
pub record Numbers : Type 0 where
  pub node : ℕ
  pub thread : ℕ
  pub base : ℕ
  pub goto : ℕ

-- a piece of text: what it counts, and what it is from these numbers on, with what follows it
pub record Piece : Type 0 where
  pub counts : Counts
  pub made : Numbers → Block → Block

abbrev pub no_counts : Counts
no_counts = record { nodes = 0; threads = 0; lower = 0; gotos = 0 }

abbrev pub together : Counts → Counts → Counts
together a b =
    record { nodes = a.nodes + b.nodes; threads = a.threads + b.threads; lower = a.lower + b.lower; gotos = a.gotos + b.gotos }

abbrev pub beyond : Numbers → Counts → Numbers
beyond at c =
    record { node = at.node + c.nodes; thread = at.thread + c.threads; base = at.base + c.lower; goto = at.goto + c.gotos }

-- pieces in a row
abbrev pub in_row : List Piece → Piece
in_row [] = record { counts = no_counts; made = λ at rest. rest }
in_row (p ∷ pieces) =
    record {
      counts = together p.counts (in_row pieces).counts;
      made = λ at rest. p.made at ((in_row pieces).made (beyond at p.counts) rest);
    }

-- what the branches of a fork count: each is a thread, whose end is a node
abbrev pub branch_counts : Counts → Counts
branch_counts c = record { nodes = 0; threads = suc c.threads; lower = suc c.nodes + c.lower; gotos = c.gotos }

abbrev pub all_branch_counts : List (List Piece) → Counts
all_branch_counts [] = no_counts
all_branch_counts (b ∷ branches) = together (branch_counts (in_row b).counts) (all_branch_counts branches)

-- the body of a thread, whose first node is n; the numbers say what comes next below it
abbrev pub thread_body : Piece → ℕ → Numbers → Block
thread_body p n at = p.made (record at { node = n }) (block.End (n + p.counts.nodes))

-- within a branch: its thread has the next number, its nodes begin where the next thread's do
abbrev pub inside : Numbers → Counts → Numbers
inside at c = record { node = at.base; thread = suc at.thread; base = at.base + suc c.nodes; goto = at.goto }

abbrev pub branches_from : List (List Piece) → Numbers → Branches
branches_from [] at = NoMore
branches_from (b ∷ branches) at =
    Branch at.thread (thread_body (in_row b) at.base (inside at (in_row b).counts))
    (branches_from branches (beyond at (branch_counts (in_row b).counts)))

abbrev pub after_nodes : ℕ → Numbers → Numbers
after_nodes n at = record at { node = n + at.node }

-- one statement
abbrev pub piece : Statement-F Piece → Piece
piece (text.Assign x e) =
    record { counts = record no_counts { nodes = 1 }; made = λ at rest. block.Assign at.node x e rest }
piece (text.Label name) =
    record { counts = no_counts; made = λ at rest. block.Label name rest }
piece (text.Goto name) =
    record { counts = record no_counts { gotos = 1 }; made = λ at rest. block.Goto at.goto name rest }
piece text.Pause =
    record { counts = record no_counts { nodes = 2 }; made = λ at rest. block.Pause at.node rest }
piece (text.If e a b) =
    record {
      counts = together (record no_counts { nodes = 1 }) (together (in_row a).counts (in_row b).counts);
      made = λ at rest. block.If at.node e
          ((in_row a).made (after_nodes 1 at) (block.End 0))
          ((in_row b).made (beyond (after_nodes 1 at) (in_row a).counts) (block.End 0)) rest;
    }
piece (text.Fork branches) =
    record {
      counts = together (record no_counts { nodes = 2 }) (all_branch_counts branches);
      made = λ at rest. block.Fork at.node (branches_from branches at) rest;
    }

abbrev pub piece_of : Statement → Piece
piece_of = fold-Statement Piece piece

-- a program with its numbers: its variables, how many threads there are, and what the root has to do
pub record Numbered : Type 0 where
  pub variables : List Variable
  pub threads : ℕ
  pub root : Block

abbrev pub numbered_body : List Variable → Piece → Numbered
numbered_body variables p =
    record {
      variables = variables;
      threads = suc p.counts.threads;
      root = thread_body p 0 (record { node = 0; thread = 1; base = suc p.counts.nodes; goto = 0 });
    }

abbrev pub pieces_of : List Statement → List Piece
pieces_of [] = []
pieces_of (s ∷ statements) = piece_of s ∷ pieces_of statements

abbrev pub numbered : Scl → Numbered
numbered p = numbered_body p.variables (in_row (pieces_of p.body))
