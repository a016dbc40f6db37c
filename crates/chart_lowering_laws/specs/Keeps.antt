-- What it is that a program keeps a chart's ticks, there and back: step by step, tick by tick, and over lists of ticks.
use Rattle.std.specs.Prelude.{ℕ, ◌≡◌, ◌⊎◌, Some, List, [], ◌∷◌}
use Rattle.sc_values.specs.Runs.{Machine, Ends, IsOver, act_of}
use Rattle.sc_graph.specs.Tick.{Inputs}
use Rattle.chart_machine.specs.declared.standing.Configuration.{Configuration}
use Rattle.chart_machine.specs.declared.table.Table.{Table}
use Rattle.chart_machine.specs.Machine as chart
use Rattle.scl.specs.Numbering.{Numbered}
use Rattle.scl.specs.Meaning.{State, Doing, Forked, doing}
use Rattle.scl.specs.Meaning as text
use Rattle.scl_graph_laws.specs.Alike.{EndsAlike}
use Rattle.chart_lowering_laws.specs.Layout.{Layout}
use Rattle.chart_lowering_laws.specs.Corresponds.{Corresponds}
use Rattle.chart_lowering_laws.specs.Shown.{AreSilent, move, shown_acts}
use Rattle.chart_lowering_laws.specs.Follows.{Follows, AnswersBy}
use Rattle.chart_lowering_laws.specs.WhichShow.{region_shows, thread_shows}

-- between two ticks: they correspond, and nobody can step in either
pub record AtRest (k : Table) (p : Numbered) (l : Layout) (c : Configuration) (s : State) : Type 0 where
  pub corresponds : Corresponds k p l c s
  pub over : IsOver (chart.machine k) c
  pub over_too : IsOver (text.machine p) s

-- the same, seen from the program
abbrev pub AtRestBack : Table → Numbered → Layout → State → Configuration → Type 0
AtRestBack k p l s c = AtRest k p l c s

-- a thread that waits at the join of its fork
abbrev pub IsForked : Doing → Type 0
IsForked (Forked n branches rest) = Unit {0}
IsForked other = ⊥

-- thread t steps, or one that waits at no join
abbrev pub LeavesJoins : ℕ → ℕ → State → Type 0
LeavesJoins t u s = (u ≡ t) ⊎ (¬ IsForked (doing s u))

-- each step of the one is followed by steps of the other that show the same
pub record KeepsSteps (k : Table) (p : Numbered) (l : Layout) : Type 0 where
  pub begins : AtRest k p l (chart.initial k) (text.initial p)
  pub starts : (inputs : Inputs) (c : Configuration) (s : State) → AtRest k p l c s → Corresponds k p l (chart.start k inputs c) (text.start p inputs s)
  pub silent : AreSilent (chart.machine k) region_shows × AreSilent (text.machine p) thread_shows
  pub there : Follows (chart.machine k) (text.machine p) region_shows thread_shows (Corresponds k p l) (AtRest k p l)
  -- a step of a region is followed so that besides its thread nobody leaves a join
  pub joins : (c d : Configuration) (s : State) (t : ℕ) → Corresponds k p l c s → (chart.machine k).step t c ≡ Some d →
      AnswersBy (text.machine p) thread_shows s (LeavesJoins t) (Corresponds k p l d)
      (shown_acts (move (region_shows c t) (act_of (chart.machine k) c t) ∷ []))
  pub back : Follows (text.machine p) (chart.machine k) thread_shows region_shows (λ s c. Corresponds k p l c s) (AtRestBack k p l)

-- from a configuration between two ticks, and by the same inputs, each end of the one is an end of the other
pub record KeepsTicks (k : Table) (p : Numbered) (l : Layout) : Type 0 where
  pub begins : AtRest k p l (chart.initial k) (text.initial p)
  pub ends : (inputs : Inputs) (c : Configuration) (s : State) (d : Configuration) → AtRest k p l c s →
      Ends (chart.machine k) (chart.start k inputs c) d → EndsAlike (text.machine p) Configuration (AtRest k p l) d (text.start p inputs s)
  pub ends_back : (inputs : Inputs) (c : Configuration) (s : State) (e : State) → AtRest k p l c s →
      Ends (text.machine p) (text.start p inputs s) e → EndsAlike (chart.machine k) State (AtRestBack k p l) e (chart.start k inputs c)

-- a reaction to a list of inputs: an end for each tick
abbrev pub Reaction : (m : Machine) → (Inputs → m.Configuration → m.Configuration) → m.Configuration → List Inputs → List m.Configuration → Type 0
Reaction m begin c [] [] = Unit {0}
Reaction m begin c (g ∷ inputs) (d ∷ ds) = Ends m (begin g c) d × Reaction m begin d inputs ds
Reaction m begin c inputs ds = ⊥

-- tick for tick
abbrev pub EachPair : {A B : Type 0} → (A → B → Type 0) → List A → List B → Type 0
EachPair R [] [] = Unit {0}
EachPair R (x ∷ xs) (y ∷ ys) = R x y × EachPair R xs ys
EachPair R xs ys = ⊥

-- a reaction of the other, whose ends correspond to these
pub record ReactsAlike (n : Machine) (begin : Inputs → n.Configuration → n.Configuration) (A : Type 0) (R : A → n.Configuration → Type 0) (b : n.Configuration)
    (inputs : List Inputs) (ds : List A) : Type 0 where
  pub ends : List n.Configuration
  pub reacts : Reaction n begin b inputs ends
  pub alike : EachPair R ds ends

pub record KeepsReactions (k : Table) (p : Numbered) (l : Layout) : Type 0 where
  pub there : (inputs : List Inputs) (ds : List Configuration) → Reaction (chart.machine k) (chart.start k) (chart.initial k) inputs ds →
      ReactsAlike (text.machine p) (text.start p) Configuration (AtRest k p l) (text.initial p) inputs ds
  pub back : (inputs : List Inputs) (es : List State) → Reaction (text.machine p) (text.start p) (text.initial p) inputs es →
      ReactsAlike (chart.machine k) (chart.start k) State (AtRestBack k p l) (chart.initial k) inputs es

pub record KeepsRuns (k : Table) (p : Numbered) (l : Layout) : Type 0 where
  pub steps : KeepsSteps k p l
  pub ticks : KeepsTicks k p l
  pub reactions : KeepsReactions k p l
