-- The structure rule: who owns what a step names, and one fork for each join and for each thread but the
-- root, one pause for each depth.
use Rattle.std.specs.Prelude.{ℕ, zero, suc, ◌≡◌, true, Some, List, All, Contains, slice_get}
use Rattle.sc_graph.specs.declared.program.Thread.{Thread}
use Rattle.sc_graph.specs.declared.program.Node.{Node}
use Rattle.sc_graph.specs.declared.program.Step.{Step}
use Rattle.sc_graph.specs.declared.program.Step.TheVariants as step
use Rattle.sc_graph.specs.declared.place.Place.{Place}
use Rattle.sc_graph.specs.declared.place.Place.TheVariants as place
use Rattle.sc_graph.specs.Program.{Program, step_at, parent_of, is_target, is_join, is_depth}

-- where a step of thread t goes on: nodes of its own, of the right sort
abbrev pub StepStays : Program → ℕ → Step → Type 0
StepStays p t (step.Assign x code next) = is_target p t next ≡ true
StepStays p t (step.Update x f code next) = is_target p t next ≡ true
StepStays p t (step.Cond code on_true on_false) = (is_target p t on_true ≡ true) × (is_target p t on_false ≡ true)
StepStays p t (step.Fork children join) = (is_join p t join ≡ true) × All (λ k. parent_of p k ≡ Some t) children
StepStays p t (step.Join next) = is_target p t next ≡ true
StepStays p t (step.Surf depth) = is_depth p t depth ≡ true
StepStays p t (step.Depth next) = is_target p t next ≡ true
StepStays p t step.Exit = Unit {0}

-- node n is a fork whose join is j
pub record JoinsAt (p : Program) (j n : ℕ) : Type 0 where
  pub children : List ℕ
  pub forks : step_at p n ≡ Some (step.Fork children j)

-- node n is a fork of which thread k is a child
pub record ForksChild (p : Program) (k n : ℕ) : Type 0 where
  pub children : List ℕ
  pub join : ℕ
  pub forks : step_at p n ≡ Some (step.Fork children join)
  pub child : Contains children k

-- exactly one number
pub record ExactlyOne (P : ℕ → Type 0) : Type 0 where
  pub one : ℕ
  pub is : P one
  pub alone : (n : ℕ) → P n → n ≡ one

-- each join belongs to one fork, each depth to one pause
abbrev pub BelongsToOne : Program → ℕ → Step → Type 0
BelongsToOne p n (step.Join next) = ExactlyOne (JoinsAt p n)
BelongsToOne p n (step.Depth next) = ExactlyOne (λ m. step_at p m ≡ Some (step.Surf n))
BelongsToOne p n other = Unit {0}

pub record NodeStands (p : Program) (n : ℕ) (a : Node) : Type 0 where
  pub stays : StepStays p a.owner a.step
  pub belongs : BelongsToOne p n a.step

-- each thread but the root is a child of one fork
abbrev pub IsForkedOnce : Program → ℕ → Type 0
IsForkedOnce p zero = Unit {0}
IsForkedOnce p (suc t) = ExactlyOne (ForksChild p (suc t))

pub record ThreadStands (p : Program) (t : ℕ) (a : Thread) : Type 0 where
  pub entry : is_target p t a.entry ≡ true
  pub forked : IsForkedOnce p t

-- the structure rule at a place
abbrev pub StructureAt : Program → Place → Type 0
StructureAt p (place.Thread t) = (a : Thread) → slice_get p.threads t ≡ Some a → ThreadStands p t a
StructureAt p (place.Node n) = (a : Node) → slice_get p.nodes n ≡ Some a → NodeStands p n a
StructureAt p other = Unit {0}
