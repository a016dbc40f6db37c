-- What a program means. A thread is what it still has to do: a fork puts its branches under the thread, the join puts
-- back the rest, and labels and gotos take no step.
use Rattle.std.specs.Prelude.{ℕ, Bool, true, false, Option, Some, None, List, [], ◌∷◌, map, replicate, slice_get, slice_set, unwrap_or, option_map}
use Rattle.std.specs.Prelude.{option_and_then}
use Rattle.std.specs.List.{list_all}
use Rattle.sc_values.specs.declared.value.Value.{Value}
use Rattle.sc_values.specs.declared.value.Value.TheVariants as value
use Rattle.sc_values.specs.Operator.{kind_of, initial_value}
use Rattle.sc_values.specs.Expr.{value as value_of}
use Rattle.sc_values.specs.Access.{Access, Nothing, no_access}
use Rattle.sc_values.specs.Assignment.{reads, assignment_of, access_of_assignment}
use Rattle.sc_values.specs.Runs.{Machine}
use Rattle.sc_graph.specs.Steps.{Change, Keep, Put, changed, only_if, takes_kind}
use Rattle.sc_graph.specs.Tick.{Inputs, values_at_start}
use Rattle.scl.specs.Block.{Block, End, Assign, Label, Goto, Pause, If, Fork, Branches, NoMore, Branch}
use Rattle.scl.specs.Labels.{before, settled}
use Rattle.scl.specs.Places.{threads_of, ForkedApart}
use Rattle.scl.specs.Numbering.{Numbered}

-- what a thread is at
pub data Doing : Type 0 where
  Away : Doing
  -- at the first statement of what it still has to do
  Todo : (todo : Block) → Doing
  -- until the threads of its branches have ended; then the rest
  Forked : (n : ℕ) (branches : Branches) (rest : Block) → Doing
  -- until the next tick; then it resumes, and goes on with the rest
  Resting : (n : ℕ) (rest : Block) → Doing
  Resuming : (n : ℕ) (rest : Block) → Doing
  Finished : Doing

-- what stands between two steps: the variables, and what each thread is at
pub record State : Type 0 where
  pub variables : List Value
  pub threads : List Doing

-- a number without a thread counts as away
abbrev pub doing : State → ℕ → Doing
doing s t = unwrap_or (slice_get s.threads t) Away

abbrev pub has_finished : Doing → Bool
has_finished Finished = true
has_finished other = false

abbrev pub all_finished : State → List ℕ → Bool
all_finished s threads = list_all (λ t. has_finished (doing s t)) threads

-- what a step does: a change of the variables, and what threads are at from then on
pub record ThreadChange : Type 0 where
  pub change : Change
  pub moves : List (ℕ × Doing)

abbrev pub moved : List (ℕ × Doing) → List Doing → List Doing
moved [] threads = threads
moved (m ∷ moves) threads = moved moves (slice_set threads m.0 m.1)

abbrev pub after : ThreadChange → State → State
after d s = record { variables = changed d.change s.variables; threads = moved d.moves s.threads }

-- the thread goes on with this, past labels and gotos
abbrev pub goes_on : Block → ℕ → Change → Block → Option ThreadChange
goes_on root t change rest =
    option_map (λ todo. record { change = change; moves = (t, Todo todo) ∷ [] }) (settled root rest)

abbrev pub assigned : Numbered → ℕ → ℕ → Block → Value → Option ThreadChange
assigned p t x rest v =
    only_if (takes_kind (option_map (λ a. a.kind) (slice_get p.variables x)) (kind_of v)) (goes_on p.root t (Put x v) rest)

abbrev pub chosen : Numbered → ℕ → Block → Block → Value → Option ThreadChange
chosen p t first second (value.Bool true) = goes_on p.root t Keep first
chosen p t first second (value.Bool false) = goes_on p.root t Keep second
chosen p t first second (value.Int n) = None

-- each branch comes to its first statement
abbrev pub entered : ℕ → Option Block → Option (List (ℕ × Doing)) → Option (List (ℕ × Doing))
entered t (Some todo) (Some moves) = Some ((t, Todo todo) ∷ moves)
entered t todo moves = None

abbrev pub all_entered : Block → Branches → Option (List (ℕ × Doing))
all_entered root NoMore = Some []
all_entered root (Branch t body more) = entered t (settled root body) (all_entered root more)

abbrev pub forked : ℕ → Doing → List (ℕ × Doing) → ThreadChange
forked t waits moves = record { change = Keep; moves = (t, waits) ∷ moves }

-- the threads of the branches go away, and the thread goes on with the rest
abbrev pub joined : ℕ → List ℕ → Block → ThreadChange
joined t threads todo = record { change = Keep; moves = (t, Todo todo) ∷ map (λ u. (u, Away)) threads }

-- the step of a thread that stands at a statement. Nobody stands at a label or a goto
abbrev pub first_step : Numbered → List Value → ℕ → Block → Option ThreadChange
first_step p variables t (End n) = Some (record { change = Keep; moves = (t, Finished) ∷ [] })
first_step p variables t (Assign n x e rest) = option_and_then (assigned p t x rest) (value_of e variables)
first_step p variables t (Pause n rest) = Some (record { change = Keep; moves = (t, Resting n rest) ∷ [] })
first_step p variables t (If n e a b rest) =
    option_and_then (chosen p t (before a rest) (before b rest)) (value_of e variables)
first_step p variables t (Fork n branches rest) =
    option_map (forked t (Forked n branches rest)) (all_entered p.root branches)
first_step p variables t (Label name rest) = None
first_step p variables t (Goto g name rest) = None

-- the step of a thread; None where it isn't enabled or its step is undefined
abbrev pub change_of : Numbered → State → ℕ → Doing → Option ThreadChange
change_of p s t (Todo todo) = first_step p s.variables t todo
change_of p s t (Resuming n rest) = goes_on p.root t Keep rest
change_of p s t (Forked n branches rest) =
    only_if (all_finished s (threads_of branches)) (option_map (joined t (threads_of branches)) (settled p.root rest))
change_of p s t other = None

abbrev pub step : Numbered → ℕ → State → Option State
step p t s = option_map (λ d. after d s) (change_of p s t (doing s t))

abbrev pub is_ready : State → Doing → Bool
is_ready s (Todo todo) = true
is_ready s (Resuming n rest) = true
is_ready s (Forked n branches rest) = all_finished s (threads_of branches)
is_ready s other = false

-- what the step of a thread does to the variables
abbrev pub access_of : Doing → Access
access_of (Todo (Assign n x e rest)) = access_of_assignment x (assignment_of x e)
access_of (Todo (If n e a b rest)) = record { reads = reads e; writes = Nothing }
access_of other = no_access

abbrev pub machine : Numbered → Machine
machine p =
    record {
      Configuration = State;
      enabled = λ s t. is_ready s (doing s t);
      step = step p;
      access = λ s t. access_of (doing s t);
      ForkedApart = ForkedApart p.root;
    }

-- what stands before the first tick: all variables `false` or 0, all threads away
abbrev pub initial : Numbered → State
initial p =
    record {
      variables = map (λ x. initial_value x.kind) p.variables;
      threads = replicate p.threads Away;
    }

abbrev pub woken : Doing → Doing
woken (Resting n rest) = Resuming n rest
woken other = other

-- the root, where it is still away, comes to its first statement
abbrev pub root_started : Option Block → Doing → Doing
root_started (Some todo) Away = Todo todo
root_started entry other = woken other

abbrev pub threads_at_start : Block → List Doing → List Doing
threads_at_start root [] = []
threads_at_start root (first ∷ others) = root_started (settled root root) first ∷ map woken others

-- the start of a tick: inputs get their values, who rested resumes
abbrev pub start : Numbered → Inputs → State → State
start p inputs s =
    record {
      variables = values_at_start inputs p.variables s.variables;
      threads = threads_at_start p.root s.threads;
    }
