-- The definitions at small programs: at which node a thread stands, and that the law speaks of a program that loops.
use Rattle.std.proofs.Common.{◌≡◌, ℕ, Some, List, [], ◌∷◌, map, refl}
use Rattle.std.proofs.lemmas.Option.{none-some}
use Rattle.sc_values.specs.declared.expression.Expr.{Expr}
use Rattle.sc_graph.specs.declared.control.Status.TheVariants as status
use Rattle.sc_graph.specs.declared.program.Step.TheVariants as node_step
use Rattle.scl.specs.Block.{Block, End, Assign, Label, Goto, Pause, If, Fork, Branches, NoMore, Branch}
use Rattle.scl.specs.Labels.{settled}
use Rattle.scl.specs.Places.{Place, whole, after_assign, after_label, after_goto, after_pause, in_first, in_second, after_if, after_fork, in_branch}
use Rattle.scl.specs.Numbering.{Numbered}
use Rattle.scl.specs.Meaning.{Away, Todo, Forked, Resting, Resuming, Finished}
use Rattle.scl_graph.specs.Graph.{node, program_of}
use Rattle.scl_graph_laws.specs.Standing.{standing}
use Rattle.scl_graph_laws.specs.Settling.{EachSettles}
use Rattle.scl_graph_laws.specs.Keeps.{Keeps}
use Rattle.tick_laws.proofs.Lists.{contains_none}
use Rattle.scl_graph_laws.proofs.Graphs.{graph_keeps}
use Rattle.scl_graph_laws.proofs.Jumping.{places_settle}
use Rattle.scl_graph_laws.proofs.Scopes.{KeepsScopes, stay_within}
use Rattle.scl_graph_laws.proofs.Whole.{IsWhole, mirrors}

-- fork { pause; } par { if (e) { y = e; } } join;
abbrev branches : Expr → Branches
branches e = Branch 1 (Pause 4 (End 6)) (Branch 2 (If 7 e (Assign 8 1 e (End 0)) (End 0) (End 9)) NoMore)

-- the root waits at the join, one branch rests at its depth, the other is at its test
stand : (e : Expr) → map standing (Forked 1 (branches e) (End 3) ∷ Resting 4 (End 6) ∷ Todo (If 7 e (Assign 8 1 e (End 0)) (End 0) (End 9)) ∷ [])
    ≡ status.Waiting 2 ∷ status.Paused 5 ∷ status.At 7 ∷ []
stand e = refl

-- who resumes stands at the depth too, and who is away or has finished at no node
stand_later : map standing (Resuming 4 (End 6) ∷ Away ∷ Finished ∷ []) ≡ status.At 5 ∷ status.Absent ∷ status.Ended ∷ []
stand_later = refl

-- ---- L: pause; goto L;

abbrev back : Block
back = Goto 0 (76 ∷ []) (End 2)

abbrev around : Block
around = Label (76 ∷ []) (Pause 0 back)

abbrev program : Numbered
program = record { variables = []; threads = 1; root = around }

around_nodes : (program_of program).nodes ≡ node 0 (node_step.Surf 1) ∷ node 0 (node_step.Depth 0) ∷ node 0 node_step.Exit ∷ []
around_nodes = refl

-- its four places
data OneOfFour : Block → Type 0 where
  at_label : OneOfFour (Label (76 ∷ []) (Pause 0 (Goto 0 (76 ∷ []) (End 2))))
  at_pause : OneOfFour (Pause 0 (Goto 0 (76 ∷ []) (End 2)))
  at_goto : OneOfFour (Goto 0 (76 ∷ []) (End 2))
  at_end : OneOfFour (End 2)

behind_assign : (n x : ℕ) (e : Expr) (rest : Block) → OneOfFour (Assign n x e rest) → ⊥
behind_assign n x e rest h = elim h [ ]

behind_if : (n : ℕ) (e : Expr) (a b rest : Block) → OneOfFour (If n e a b rest) → ⊥
behind_if n e a b rest h = elim h [ ]

behind_fork : (n : ℕ) (branches : Branches) (rest : Block) → OneOfFour (Fork n branches rest) → ⊥
behind_fork n branches rest h = elim h [ ]

behind_label : (name : List ℕ) (rest : Block) → OneOfFour (Label name rest) → OneOfFour rest
behind_label name rest at_label = at_pause

behind_goto : (g : ℕ) (name : List ℕ) (rest : Block) → OneOfFour (Goto g name rest) → OneOfFour rest
behind_goto g name rest at_goto = at_end

behind_pause : (n : ℕ) (rest : Block) → OneOfFour (Pause n rest) → OneOfFour rest
behind_pause n rest at_pause = at_goto

one_of_four : (t : ℕ) (todo : Block) → Place around t todo → OneOfFour todo
one_of_four t todo whole = at_label
one_of_four t todo (after_assign s n x e rest place) = absurd (behind_assign n x e rest (one_of_four s (Assign n x e rest) place))
one_of_four t todo (after_label s name rest place) = behind_label name rest (one_of_four s (Label name rest) place)
one_of_four t todo (after_goto s g name rest place) = behind_goto g name rest (one_of_four s (Goto g name rest) place)
one_of_four t todo (after_pause s n rest place) = behind_pause n rest (one_of_four s (Pause n rest) place)
one_of_four t todo (in_first s n e a b rest place) = absurd (behind_if n e a b rest (one_of_four s (If n e a b rest) place))
one_of_four t todo (in_second s n e a b rest place) = absurd (behind_if n e a b rest (one_of_four s (If n e a b rest) place))
one_of_four t todo (after_if s n e a b rest place) = absurd (behind_if n e a b rest (one_of_four s (If n e a b rest) place))
one_of_four t todo (after_fork s n branches rest place) = absurd (behind_fork n branches rest (one_of_four s (Fork n branches rest) place))
one_of_four t todo (in_branch s n u branches body rest place at) = absurd (behind_fork n branches rest (one_of_four s (Fork n branches rest) place))

one_of_four_settles : (todo : Block) → OneOfFour todo → (first : Block) × (settled around todo ≡ Some first)
one_of_four_settles todo at_label = (Pause 0 back, refl)
one_of_four_settles todo at_pause = (Pause 0 back, refl)
one_of_four_settles todo at_goto = (Pause 0 back, refl)
one_of_four_settles todo at_end = (End 2, refl)

around_settles : EachSettles around
around_settles t todo place = one_of_four_settles todo (one_of_four t todo place)

around_scopes : KeepsScopes around
around_scopes = record { distinct = (λ h. contains_none (76 ∷ []) h, tt); found = λ name h. h; none_lost = tt }

around_is_whole : IsWhole program
around_is_whole = record { threads = refl; end = refl; numbers = (refl, tt) }

around_keeps : Keeps program (program_of program)
around_keeps =
    graph_keeps program (program_of program) (mirrors program around_is_whole)
    (places_settle around (stay_within around around_scopes) around_settles)
    (λ i j a b h k same. absurd (none-some a h))
