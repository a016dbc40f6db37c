-- The graph of a small program.
use Rattle.std.proofs.Common.{◌≡◌, ℕ, Some, None, List, [], ◌∷◌, refl}
use Rattle.sc_values.specs.declared.expression.Expr.{Expr}
use Rattle.sc_values.specs.Expr.{postorder}
use Rattle.sc_values.specs.Assignment.{assignment_of}
use Rattle.sc_graph.specs.declared.program.Step.TheVariants as step
use Rattle.scl.specs.declared.statement.Statement.TheOpen as text
use Rattle.scl.specs.Numbering.{Numbered, piece, in_row, numbered_body}
use Rattle.scl_graph.specs.Graph.{assigns, node, program_of}

abbrev name_l : List ℕ
name_l = 76 ∷ []

-- x = e; L: fork { pause; } par { if (e) { y = e; } } join; goto L;
abbrev example : Expr → Numbered
example e =
    numbered_body []
    (in_row
    (piece (text.Assign 0 e)
    ∷ piece (text.Label name_l)
    ∷ piece (text.Fork ((piece text.Pause ∷ []) ∷ (piece (text.If e (piece (text.Assign 1 e) ∷ []) []) ∷ []) ∷ []))
    ∷ piece (text.Goto name_l)
    ∷ []))

-- the join leads back to the fork
example_nodes : (e : Expr) → (program_of (example e)).nodes ≡ node 0 (assigns 0 (assignment_of 0 e) 1) ∷ node 0 (step.Fork (1 ∷ 2 ∷ []) 2) ∷ node 0
    (step.Join 1) ∷ node 0 step.Exit ∷ node 1 (step.Surf 5) ∷ node 1 (step.Depth 6) ∷ node 1 step.Exit ∷ node 2 (step.Cond (postorder e) 8 9) ∷ node 2
    (assigns 1 (assignment_of 1 e) 9) ∷ node 2 step.Exit ∷ []
example_nodes e = refl

example_threads : (e : Expr) → (program_of (example e)).threads ≡ record { parent = None; entry = 0 } ∷ record { parent = Some 0; entry = 4 } ∷ record
    { parent = Some 0; entry = 7 } ∷ []
example_threads e = refl

-- the program of no statement is the end of its root
empty_nodes : (program_of (numbered_body [] (in_row []))).nodes ≡ node 0 step.Exit ∷ []
empty_nodes = refl

-- if (e) { fork { goto M; M: } join; } x = e; the goto leads to the end of its own thread, and not behind the if
abbrev name_m : List ℕ
name_m = 77 ∷ []

abbrev fork_in_an_if : Expr → Numbered
fork_in_an_if e =
    numbered_body []
    (in_row
    (piece (text.If e (piece (text.Fork ((piece (text.Goto name_m) ∷ piece (text.Label name_m) ∷ []) ∷ [])) ∷ []) [])
    ∷ piece (text.Assign 0 e)
    ∷ []))

fork_in_an_if_nodes : (e : Expr) → (program_of (fork_in_an_if e)).nodes ≡ node 0 (step.Cond (postorder e) 1 3) ∷ node 0 (step.Fork (1 ∷ []) 2) ∷ node 0
    (step.Join 3) ∷ node 0 (assigns 0 (assignment_of 0 e) 4) ∷ node 0 step.Exit ∷ node 1 step.Exit ∷ []
fork_in_an_if_nodes e = refl

fork_in_an_if_threads : (e : Expr) → (program_of (fork_in_an_if e)).threads ≡ record { parent = None; entry = 0 } ∷ record { parent = Some 0; entry = 5 } ∷ []
fork_in_an_if_threads e = refl

-- pause; goto L; x = e; L: pause; what no thread comes to has its nodes too
abbrev passed_over : Expr → Numbered
passed_over e =
    numbered_body []
    (in_row (piece text.Pause ∷ piece (text.Goto name_l) ∷ piece (text.Assign 0 e) ∷ piece (text.Label name_l) ∷ piece text.Pause ∷ []))

passed_over_nodes : (e : Expr) → (program_of (passed_over e)).nodes ≡ node 0 (step.Surf 1) ∷ node 0 (step.Depth 3) ∷ node 0
    (assigns 0 (assignment_of 0 e) 3) ∷ node 0 (step.Surf 4) ∷ node 0 (step.Depth 5) ∷ node 0 step.Exit ∷ []
passed_over_nodes e = refl
