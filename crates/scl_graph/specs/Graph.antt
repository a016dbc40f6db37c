-- The program of an SCL program: a node for each step that a thread can take, in the order of the text, with labels
-- and gotos resolved.
use Rattle.std.specs.Prelude.{ℕ, zero, suc, Option, Some, None, List, [], ◌∷◌, ◌++◌}
use Rattle.sc_values.specs.Expr.{postorder}
use Rattle.sc_values.specs.Assignment.{Assignment, Inits, Combines, assignment_of}
use Rattle.sc_graph.specs.declared.program.Node.{Node}
use Rattle.sc_graph.specs.declared.program.Thread.{Thread}
use Rattle.sc_graph.specs.declared.program.Step.{Step}
use Rattle.sc_graph.specs.declared.program.Step.TheVariants as step
use Rattle.sc_graph.specs.Program.{Program}
use Rattle.scl.specs.Block.{Block, End, Assign, Label, Goto, Pause, If, Fork, Branches, NoMore, Branch}
use Rattle.scl.specs.Labels.{settled}
use Rattle.scl.specs.Sums.{Sum, total, total_among}
use Rattle.scl.specs.Places.{threads_of}
use Rattle.scl.specs.Numbering.{Numbered}
use Rattle.scl_graph.specs.declared.way.Way.{Way}
use Rattle.scl_graph.specs.declared.way.Way.TheVariants.{At, Jumps}

-- where a thread goes on that has this to do, and then goes on this way behind it
abbrev pub way : Block → Way → Way
way (End n) behind = behind
way (Assign n x e rest) behind = At n
way (Label name rest) behind = way rest behind
way (Goto g name rest) behind = Jumps name
way (Pause n rest) behind = At n
way (If n e first second rest) behind = At n
way (Fork n branches rest) behind = At n

abbrev pub node : ℕ → Step → Node
node t s = record { owner = t; step = s }

abbrev pub assigns : ℕ → Assignment → ℕ → Step
assigns x (Inits e) next = step.Assign x (postorder e) next
assigns x (Combines f e) next = step.Update x f (postorder e) next

-- the nodes of thread t for this part of its text, behind which it goes on this way; the target of a way is the
-- number of the node to which it leads
abbrev pub own : (Way → ℕ) → ℕ → Block → Way → List Node
own target t (End n) behind = []
own target t (Assign n x e rest) behind =
    node t (assigns x (assignment_of x e) (target (way rest behind))) ∷ own target t rest behind
own target t (Label name rest) behind = own target t rest behind
own target t (Goto g name rest) behind = own target t rest behind
own target t (Pause n rest) behind =
    node t (step.Surf (suc n)) ∷ node t (step.Depth (target (way rest behind))) ∷ own target t rest behind
own target t (If n e first second rest) behind =
    node t (step.Cond (postorder e) (target (way first (way rest behind))) (target (way second (way rest behind))))
    ∷ own target t first (way rest behind) ++ own target t second (way rest behind) ++ own target t rest behind
own target t (Fork n branches rest) behind =
    node t (step.Fork (threads_of branches) (suc n)) ∷ node t (step.Join (target (way rest behind)))
    ∷ own target t rest behind

-- the number of the end of a thread's text
abbrev pub end : Block → ℕ
end (End n) = n
end (Assign n x e rest) = end rest
end (Label name rest) = end rest
end (Goto g name rest) = end rest
end (Pause n rest) = end rest
end (If n e first second rest) = end rest
end (Fork n branches rest) = end rest

-- all nodes of thread t, its end last
abbrev pub of_thread : (Way → ℕ) → ℕ → Block → List Node
of_thread target t body = own target t body (At (end body)) ++ node t step.Exit ∷ []

-- the nodes of the threads that are forked in a text. A thread's nodes stand before those of the threads that it forks
abbrev pub nodes_below : (Way → ℕ) → Sum (List Node)
nodes_below target =
    record {
      nothing = [];
      together = λ first second. first ++ second;
      label = λ name nodes. nodes;
      fork = λ first second. first ++ second;
      branch = λ t body nodes. of_thread target t body ++ nodes;
    }

abbrev pub below : (Way → ℕ) → Block → List Node
below target = total (nodes_below target)

abbrev pub among : (Way → ℕ) → Branches → List Node
among target = total_among (nodes_below target)

-- a thread begins where its text leads
abbrev pub thread : (Way → ℕ) → Option ℕ → Block → Thread
thread target parent body = record { parent = parent; entry = target (way body (At (end body))) }

abbrev mutual
  -- the threads that thread t forks in a text, and those below them
  pub forked : (Way → ℕ) → ℕ → Block → List Thread
  forked target t (End n) = []
  forked target t (Assign n x e rest) = forked target t rest
  forked target t (Label name rest) = forked target t rest
  forked target t (Goto g name rest) = forked target t rest
  forked target t (Pause n rest) = forked target t rest
  forked target t (If n e first second rest) = forked target t first ++ forked target t second ++ forked target t rest
  forked target t (Fork n branches rest) = forked_among target t branches ++ forked target t rest

  pub forked_among : (Way → ℕ) → ℕ → Branches → List Thread
  forked_among target t NoMore = []
  forked_among target t (Branch u body more) =
      thread target (Some t) body ∷ forked target u body ++ forked_among target t more

abbrev pub program_by : (Way → ℕ) → Numbered → Program
program_by target p =
    record {
      variables = p.variables;
      threads = thread target None p.root ∷ forked target zero p.root;
      nodes = of_thread target zero p.root ++ below target p.root;
    }

-- the node at which a thread stands that has this to do; labels and gotos have none
abbrev pub number : Option Block → ℕ
number (Some (End n)) = n
number (Some (Assign n x e rest)) = n
number (Some (Pause n rest)) = n
number (Some (If n e first second rest)) = n
number (Some (Fork n branches rest)) = n
number other = 0

-- where a way leads in a program: a label leads past further labels and gotos
abbrev pub target : Block → Way → ℕ
target root (At n) = n
target root (Jumps name) = number (settled root (Goto 0 name (End 0)))

abbrev pub program_of : Numbered → Program
program_of p = program_by (target p.root) p
