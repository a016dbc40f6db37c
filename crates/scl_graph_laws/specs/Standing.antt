-- At which node of the graph a thread stands, and where in the text it is.
use Rattle.std.specs.Prelude.{ℕ, suc, Some}
use Rattle.sc_graph.specs.declared.control.Status.{Status}
use Rattle.sc_graph.specs.declared.control.Status.TheVariants as status
use Rattle.scl.specs.Block.{Block, Label, Goto, Pause, Fork}
use Rattle.scl.specs.Places.{Place}
use Rattle.scl.specs.Meaning.{Doing, Away, Todo, Forked, Resting, Resuming, Finished}
use Rattle.scl_graph.specs.Graph.{number}

-- it begins with a statement that takes a step: no label and no goto
abbrev pub IsStep : Block → Type 0
IsStep (Label name rest) = ⊥
IsStep (Goto g name rest) = ⊥
IsStep other = Unit {0}

-- where a thread that is at this stands in the graph: at the node of its first statement, waiting at the join of its
-- fork, paused at the depth of its pause
abbrev pub standing : Doing → Status
standing Away = status.Absent
standing (Todo todo) = status.At (number (Some todo))
standing (Forked n branches rest) = status.Waiting (suc n)
standing (Resting n rest) = status.Paused (suc n)
standing (Resuming n rest) = status.At (suc n)
standing Finished = status.Ended

-- what thread t is at comes from a place of its own in the text
abbrev pub IsOfText : Block → ℕ → Doing → Type 0
IsOfText root t (Todo todo) = Place root t todo × IsStep todo
IsOfText root t (Forked n branches rest) = Place root t (Fork n branches rest)
IsOfText root t (Resting n rest) = Place root t (Pause n rest)
IsOfText root t (Resuming n rest) = Place root t (Pause n rest)
IsOfText root t Away = Unit {0}
IsOfText root t Finished = Unit {0}
