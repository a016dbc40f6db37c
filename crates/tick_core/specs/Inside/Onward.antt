-- A step with the rows and counts that it leaves, and the steps that concern their own thread alone.
use Rattle.std.specs.Prelude.{ℕ, ◌≡◌, ◌<◌, IsSome, None, Some, List, [], Option, length, slice_get, slice_set}
use Rattle.tick_core.specs.Rows.{Rows, IsIn}
use Rattle.sc_values.specs.declared.value.Value.{Value}
use Rattle.sc_graph.specs.declared.program.Step.{Step}
use Rattle.sc_graph.specs.declared.program.Step.TheVariants as of_node
use Rattle.sc_graph.specs.declared.control.Control.{Control}
use Rattle.sc_graph.specs.declared.control.Status.{Status}
use Rattle.sc_graph.specs.declared.control.Status.TheVariants as status
use Rattle.sc_graph.specs.declared.tables.Tables.{Tables}
use Rattle.sc_graph.specs.Program.{Program, step_at}
use Rattle.sc_graph.specs.Control.{status_of, IsEnabled}
use Rattle.sc_graph.specs.Priority.{Leads}
use Rattle.sc_graph.specs.Steps.{step}
use Rattle.sc_graph.specs.Tables.{priority}
use Rattle.sc_graph.specs.Tick.{IsConfiguration}
use Rattle.sc_graph.specs.Valid.{IsValid}
use Rattle.tick_core.specs.Claims.{Claim}
use Rattle.tick_core.specs.Space.Joins.{FindsForks}
use Rattle.tick_core.specs.Space.Living.{CountsLiving}
use Rattle.tick_core.specs.Space.Sorting.{AreOpen, OwnRows, AreSorted, children_of, children_at}
use Rattle.tick_core.specs.Inside.Work.{value_at}

-- at a node, or paused: nobody else's count or row hangs on it
abbrev pub IsOwnAffair : Status → Type 0
IsOwnAffair (status.At n) = Unit {0}
IsOwnAffair (status.Paused d) = Unit {0}
IsOwnAffair other = ⊥

-- a step that concerns nobody else
abbrev pub IsOwnStep : Step → Type 0
IsOwnStep (of_node.Fork children join) = ⊥
IsOwnStep (of_node.Join next) = ⊥
IsOwnStep of_node.Exit = ⊥
IsOwnStep other = Unit {0}

-- the step of a thread that stands so, where it stands at a node
abbrev pub step_here : Program → Status → Option Step
step_here p (status.At n) = step_at p n
step_here p other = None

-- the row of a thread that stands at a node; who is paused stands in none
abbrev pub own_row : Tables → Status → Option ℕ
own_row q (status.At n) = Some (priority q n)
own_row q other = None

-- the step of thread t from a node leads it here, and concerns nobody else
pub record MovesAloneAt (c d : Control) (t : ℕ) (s : Step) (st : Status) : Type 0 where
  pub statuses : d.statuses ≡ slice_set c.statuses t st
  pub own : IsOwnAffair st
  pub alone : children_of s ≡ []

-- the step of thread t leads it here, and concerns nobody else
pub record MovesAlone (p : Program) (c d : Control) (t : ℕ) (st : Status) : Type 0 where
  pub statuses : d.statuses ≡ slice_set c.statuses t st
  pub own : IsOwnAffair st
  pub alone : children_at p (status_of c t) ≡ []

-- thread t stands at a node, in whose row it stood before
pub record StaysAt (q : Tables) (t : ℕ) (rows : Rows) (st : Status) : Type 0 where
  pub node : ℕ
  pub is : st ≡ status.At node
  pub is_in : IsIn rows.classes t (priority q node)

-- a step of thread t leads it here, and where it led, by these rows, it leads on
pub record LeadsOn (p : Program) (q : Tables) (c d : Control) (t : ℕ) (rows : Rows) (st : Status) : Type 0 where
  pub standing : st ≡ status_of d t
  pub leads : (claims : List (Option Claim)) → AreSorted p q c claims rows → Leads p q c t → Leads p q d t

-- thread t may step from here, without a claim, and its code has this value; counts and rows are those of the program
pub record MayStep (p : Program) (q : Tables) (joins : List (Option ℕ)) (c : Control) (t : ℕ) (value : Option Value) (claims : List (Option Claim))
    (claimed : ℕ) (counts : List ℕ) (rows : Rows) : Type 0 where
  pub forks : FindsForks p joins
  pub valid : IsValid p q
  pub configuration : IsConfiguration p c
  pub place : t < length p.threads
  pub enabled : IsEnabled p c t
  pub defined : IsSome (step p t c)
  pub value_is : value ≡ value_at p c (status_of c t)
  pub unclaimed : slice_get claims t ≡ Some None
  pub opened : AreOpen p claims claimed
  pub counted : CountsLiving p c counts
  pub own_rows : OwnRows p q rows

-- thread t steps: the counts are those of the configuration behind its step, and where the rows were sorted before, with
-- its claim, so they are after, without one
pub record Goes (p : Program) (q : Tables) (c d : Control) (t : ℕ) (claims : List (Option Claim)) (rows after_rows : Rows) (after_counts : List ℕ)
    : Type 0 where
  pub stepped : step p t c ≡ Some d
  pub counts : CountsLiving p d after_counts
  pub sorted : (before : List (Option Claim)) → AreSorted p q c before rows → claims ≡ slice_set before t None → AreSorted p q d claims after_rows
