-- Each tick of a chart comes to an end: its runs are bounded.
use Rattle.std.specs.Prelude.{ℕ, ◌≡◌, ◌≤◌, Some, List, [], ◌∷◌, length}
use Rattle.sc_values.specs.Runs.{replay, Completes}
use Rattle.sc_graph.specs.Tick.{Inputs, AreAccepted}
use Rattle.core_charts.specs.declared.features.Features.TheVariants as features
use Rattle.core_charts.specs.Chart.{Chart}
use Rattle.core_charts.specs.Rules.{IsChart}
use Rattle.abort_expansion.specs.Expansion.{expanded}
use Rattle.chart_lowering_laws.specs.Laws.{IsLowering}
use Rattle.abort_expansion_laws.specs.Ticks.{Reactive, Reaction, AllOf}
use Rattle.abort_expansion_laws.specs.Preemption.{chart_machine, HasImage}

-- where a list of ends leads: to the last of them, or nowhere
abbrev pub last_of : {A : Type 0} → A → List A → A
last_of c [] = c
last_of c (d ∷ ends) = last_of d ends

-- whatever a run of the tick does, another one completes it
pub record GoesOn (r : Reactive) (d : r.machine.Configuration) : Type 0 where
  pub run : List ℕ
  pub end : r.machine.Configuration
  pub completes : Completes r.machine run d end

-- in each tick that follows a list of ends, by inputs that are accepted
pub record EndsEachTick (r : Reactive) (Accepted : Inputs → Type 0) : Type 0 where
  -- no run takes more steps than this
  pub most : ℕ
  pub bounded : (ticks : List Inputs) (ends : List r.machine.Configuration) (inputs : Inputs) → AllOf Accepted ticks → Accepted inputs →
      Reaction r ticks r.initial ends →
      (run : List ℕ) (d : r.machine.Configuration) → replay r.machine run (r.start inputs (last_of r.initial ends)) ≡ Some d → length run ≤ most
  pub goes_on : (ticks : List Inputs) (ends : List r.machine.Configuration) (inputs : Inputs) → AllOf Accepted ticks → Accepted inputs →
      Reaction r ticks r.initial ends →
      (run : List ℕ) (d : r.machine.Configuration) → replay r.machine run (r.start inputs (last_of r.initial ends)) ≡ Some d → GoesOn r d

-- so it is of each chart that has a valid image, the program of which is the lowering of its core chart, however aborts lie in others
abbrev pub TicksEnd : Type 0
TicksEnd =
    (c : Chart) → IsChart features.Extended c → (image : HasImage c) → IsLowering (expanded c) image.scl →
    EndsEachTick (chart_machine c) (AreAccepted image.program)
