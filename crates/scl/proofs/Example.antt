-- The definitions at small programs: what their numbers are, where gotos lead, and what steps do.
use Rattle.std.proofs.Common.{◌≡◌, ℕ, Some, None, List, [], ◌∷◌, refl}
use Rattle.sc_values.specs.declared.expression.Expr.{Expr}
use Rattle.scl.specs.declared.statement.Statement.TheOpen as text
use Rattle.scl.specs.Block.{Block, End, Assign, Label, Goto, Pause, If, Fork, Branches, NoMore, Branch}
use Rattle.scl.specs.Numbering.{Piece, Numbered, piece, in_row, numbered_body}
use Rattle.scl.specs.Labels.{settled}
use Rattle.scl.specs.Meaning.{Doing, State, Todo, Forked, Resting, Resuming, Finished, Away, step}

abbrev name_l : List ℕ
name_l = 76 ∷ []

abbrev name_m : List ℕ
name_m = 77 ∷ []

abbrev name_n : List ℕ
name_n = 78 ∷ []

abbrev of : List Piece → Numbered
of pieces = numbered_body [] (in_row pieces)

-- x = e; L: fork { pause; } par { if (e) { y = e; } } join; goto L;
abbrev example : Expr → Numbered
example e =
    of
    (piece (text.Assign 0 e)
    ∷ piece (text.Label name_l)
    ∷ piece (text.Fork ((piece text.Pause ∷ []) ∷ (piece (text.If e (piece (text.Assign 1 e) ∷ []) []) ∷ []) ∷ []))
    ∷ piece (text.Goto name_l)
    ∷ [])

abbrev branch_of_pause : Block
branch_of_pause = Pause 4 (End 6)

abbrev branch_of_if : Expr → Block
branch_of_if e = If 7 e (Assign 8 1 e (End 0)) (End 0) (End 9)

abbrev branches : Expr → Branches
branches e = Branch 1 branch_of_pause (Branch 2 (branch_of_if e) NoMore)

-- the nodes of the root stand before those of the branches, and each thread's end stands behind its other nodes
example_root : (e : Expr) → (example e).root ≡ Assign 0 0 e (Label name_l (Fork 1 (branches e) (Goto 0 name_l (End 3))))
example_root e = refl

example_threads : (e : Expr) → (example e).threads ≡ 3
example_threads e = refl

-- a branch stands before what is nested in it: fork { fork { } par { } join; } par { pause; } join;
abbrev nested : Numbered
nested = of (piece (text.Fork ((piece (text.Fork ([] ∷ [] ∷ [])) ∷ []) ∷ (piece text.Pause ∷ []) ∷ [])) ∷ [])

nested_root : nested.root ≡ Fork 0 (Branch 1 (Fork 3 (Branch 2 (End 6) (Branch 3 (End 7) NoMore)) (End 5)) (Branch 4 (Pause 8 (End 10)) NoMore)) (End 2)
nested_root = refl

-- the program of no statement is its end
empty_root : (of []).root ≡ End 0
empty_root = refl

-- a goto leads behind its label, past other labels and gotos, and out of the branch of an if
goto_leads_on : (e : Expr) → settled (example e).root (Goto 0 name_l (End 3)) ≡ Some (Fork 1 (branches e) (Goto 0 name_l (End 3)))
goto_leads_on e = refl

-- if (e) { L: } else { goto L; } pause;
abbrev out_of_if : Expr → Block
out_of_if e = If 0 e (Label name_l (End 0)) (Goto 0 name_l (End 0)) (Pause 1 (End 3))

behind_the_if : (e : Expr) → settled (out_of_if e) (Goto 0 name_l (Pause 1 (End 3))) ≡ Some (Pause 1 (End 3))
behind_the_if e = refl

-- goto M; N: goto N; M: goto M; leads nowhere, and nor does a loop through the end of an if
abbrev circles : Block
circles = Goto 0 name_m (Label name_n (Goto 1 name_n (Label name_m (Goto 2 name_m (End 0)))))

circles_nowhere : settled circles circles ≡ None
circles_nowhere = refl

-- L: if (e) { } else { pause; } goto L;
abbrev around : Expr → Block
around e = Label name_l (If 0 e (End 0) (Pause 1 (End 0)) (Goto 0 name_l (End 3)))

around_leads : (e : Expr) → settled (around e) (Goto 0 name_l (End 3)) ≡ Some (If 0 e (End 0) (Pause 1 (End 0)) (Goto 0 name_l (End 3)))
around_leads e = refl

-- a fork puts its branches under the thread, and the join puts back the rest
abbrev forking : (e : Expr) → Block
forking e = Fork 1 (branches e) (Goto 0 name_l (End 3))

abbrev waiting : (e : Expr) → Doing
waiting e = Forked 1 (branches e) (Goto 0 name_l (End 3))

abbrev at : Doing → Doing → Doing → State
at a b c = record { variables = []; threads = a ∷ b ∷ c ∷ [] }

forks : (e : Expr) → step (example e) 0 (at (Todo (forking e)) Away Away) ≡ Some (at (waiting e) (Todo branch_of_pause) (Todo (branch_of_if e)))
forks e = refl

joins : (e : Expr) → step (example e) 0 (at (waiting e) Finished Finished) ≡ Some (at (Todo (forking e)) Away Away)
joins e = refl

waits : (e : Expr) → step (example e) 0 (at (waiting e) Finished (Resting 4 (End 6))) ≡ None
waits e = refl

-- a paused thread resumes, and goes on in the next tick
pauses : (e : Expr) → step (example e) 1 (at (waiting e) (Todo branch_of_pause) Finished) ≡ Some (at (waiting e) (Resting 4 (End 6)) Finished)
pauses e = refl

resumes : (e : Expr) → step (example e) 1 (at (waiting e) (Resuming 4 (End 6)) Finished) ≡ Some (at (waiting e) (Todo (End 6)) Finished)
resumes e = refl

ends : (e : Expr) → step (example e) 1 (at (waiting e) (Todo (End 6)) Finished) ≡ Some (at (waiting e) Finished Finished)
ends e = refl
