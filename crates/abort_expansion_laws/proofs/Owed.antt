-- What a simulation of the chart's steps owes, as statements: entering, the start and the end of a tick. Of each expanded chart they
-- hold: `Enters` (`TargetsEntered`), `Begins` (`TicksBegin`) and `Finishes` (`TicksFinish`). Of the steps between, `StepsFollowed` of
-- `TickFollowed` does (`StepsByCase`).
use Rattle.std.proofs.Common.{◌≡◌, ◌≢◌, ℕ, suc, Bool, true, false, Option, Some, List, [], ◌∷◌, ◌++◌, map, length, slice_set, Contains}
use Rattle.sc_values.specs.declared.value.Value.{Value}
use Rattle.sc_values.specs.Expr.{value as value_of}
use Rattle.sc_graph.specs.Tick.{Inputs}
use Rattle.core_charts.specs.declared.region.Effect.{Effect}
use Rattle.core_charts.specs.declared.region.Transition.{Transition}
use Rattle.core_charts.specs.Aborts.{has_aborts}
use Rattle.chart_machine.specs.declared.standing.Standing.{Standing}
use Rattle.chart_machine.specs.declared.standing.Standing.TheVariants as at
use Rattle.chart_machine.specs.declared.standing.Configuration.{Configuration}
use Rattle.chart_machine.specs.declared.table.Table.{Table}
use Rattle.chart_machine.specs.Table.{state_at}
use Rattle.chart_machine.specs.Turns.{standing_of, is_guarded}
use Rattle.chart_machine.specs.Steps.{moved, state_in}
use Rattle.chart_machine.specs.Machine.{machine, initial, start}
use Rattle.abort_expansion.specs.Transitions.{count_down, led}
use Rattle.abort_expansion.specs.Superstates.{stays}
use Rattle.abort_expansion_laws.specs.Stages.{Entry, NoneReached}
use Rattle.abort_expansion_laws.proofs.Segments.{Segment}
use Rattle.chart_machine_laws.proofs.LyingIn.{IsNested, around, holder}
use Rattle.abort_expansion_laws.proofs.TablesCorrespond.{IsThere}
use Rattle.abort_expansion_laws.specs.CoreRows.{own, IsState, is_final, IsSuper, IsSimple, joins, Images, CoreRows, flags_around, counter_over}
use Rattle.abort_expansion_laws.specs.Related.{is_behind, IsInside, FlagsAreDown, Closes, Related}
use Rattle.abort_expansion_laws.proofs.StageReached.{Stage}
use Rattle.abort_expansion_laws.proofs.ImageSteps.{pair}

module _ (k core : Table) (i : Images) where
  -- ---- between two ticks

  pub data RestsIn (c : Configuration) (r : ℕ) : Standing → Standing → Type 0 where
    rests_outside : RestsIn c r at.Outside at.Outside
    rests_ended : ((s : ℕ) (ss : List ℕ) → around k r ≡ s ∷ ss → is_behind k core i c s ≡ false) → RestsIn c r at.Ended at.Ended
    rests_left : (s : ℕ) (ss : List ℕ) → around k r ≡ s ∷ ss → is_behind k core i c s ≡ true → RestsIn c r at.Ended at.Outside
    rests_trying : (s : ℕ) → IsSimple k s → holder k s ≡ r → RestsIn c r (at.Trying s []) (at.Trying (i.main_of s) [])
    rests_staying : (s : ℕ) (tests : List Transition) → IsSuper k s → holder k s ≡ r → stays (flags_around k core i r) (own k s) ≡ true →
        RestsIn c r (at.Within s tests) (at.Within (i.main_of s) (map (led (i.places_of r)) tests))
    rests_within : (s join : ℕ) (tests : List Transition) → IsSuper k s → holder k s ≡ r → stays (flags_around k core i r) (own k s) ≡ false →
        is_behind k core i c s ≡ false →
        state_in core (i.thread_of r) join ≡ i.behind_of s → RestsIn c r (at.Within s tests) (at.Within (i.main_of s) (joins join ∷ []))
    rests_behind : (s : ℕ) (tests : List Transition) → IsSuper k s → holder k s ≡ r → is_behind k core i c s ≡ true →
        RestsIn c r (at.Within s tests) (at.Trying (i.behind_of s) [])

  pub data WatchRests (o : ℕ) : Standing → Standing → Type 0 where
    watch_within : (tests : List Transition) → WatchRests o (at.Within o tests) (at.Trying (i.watching_of o) [])
    watch_elsewhere : (x : Standing) → ((tests : List Transition) → x ≢ at.Within o tests) → WatchRests o x at.Outside

  pub record Resting (c d : Configuration) : Type 0 where
    pub more : List Value
    pub variables : d.variables ≡ c.variables ++ more
    pub flag_count : length d.variables ≡ length core.variables
    pub chart_regions : length c.regions ≡ suc (length k.regions)
    pub core_regions : length d.regions ≡ suc (length core.regions)
    pub values : length c.variables ≡ length k.variables
    pub no_chart : standing_of c 0 ≡ at.Outside
    pub no_core : standing_of d 0 ≡ at.Outside
    pub regions : (r : ℕ) → IsThere k r → RestsIn c r (standing_of c r) (standing_of d (i.thread_of r))
    pub watchers : (o : ℕ) → IsState k o → has_aborts (own k o) ≡ true → WatchRests o (standing_of c (holder k o)) (standing_of d (i.watcher_of o))
    pub flags : (s : ℕ) → IsState k s → IsInside k core i s (standing_of c (holder k s)) → FlagsAreDown k core i c d.variables s
    pub enclosed : (r s : ℕ) → IsThere k r → standing_of c r ≢ at.Outside → Contains (around k r) s → IsInside k core i s (standing_of c (holder k s))
    pub opened : (s r : ℕ) → IsState k s → IsInside k core i s (standing_of c (holder k s)) → Contains (state_at k s).regions r → standing_of c r ≢ at.Outside
    pub closes_last : (s : ℕ) (tests : List Transition) → standing_of c (holder k s) ≡ at.Within s tests → Closes k core i s tests
    -- a region of the chart is entered, so neither takes the next tick for the first
    pub begun : (r : ℕ) × IsThere k r × (around k r ≡ []) × (standing_of c r ≢ at.Outside)

  -- ---- the start of a tick

  pub data Started (c d : Configuration) : Type 0 where
    first_tick : (inputs : Inputs) → c ≡ start k inputs (initial k) → d ≡ start core inputs (initial core) → Started c d
    later_tick : (inputs : Inputs) (before core_before : Configuration) → Resting before core_before → c ≡ start k inputs before →
        d ≡ start core inputs core_before → Started c d

  -- ---- entering

  -- the variables of the core after counting down, where the state ends its region
  abbrev pub Counts : Bool → Option ℕ → List Value → List Value → Type 0
  Counts true (Some x) before after = (v : Value) × (value_of (count_down x).value before ≡ Some v) × (after ≡ slice_set before x v)
  Counts ends counter before after = after ≡ before

  abbrev pub chart_enters : Configuration → (r p : ℕ) → Configuration
  chart_enters c r p = record { variables = c.variables; regions = moved (state_at k (state_in k r p)).entered c.regions }

  abbrev pub core_enters : Configuration → List Value → (r p : ℕ) → Configuration
  core_enters d values r p = record { variables = values; regions = moved (state_at core (i.entry_of (state_in k r p))).entered d.regions }

  module _ (rows : CoreRows k core i) (tree : IsNested k) (counts : ℕ → Bool) (written_at : ℕ → ℕ) (Told : Configuration → Entry → Type 0) where
    -- a region is to enter its state number p. It is taken to stand before a last effect, whatever that is: so this also serves a
    -- transition without effects, after a configuration that nobody reaches
    abbrev pub Enters : Type 0
    Enters =
        (c d : Configuration) → Related k core i c d → (r s p : ℕ) (e : Effect) → standing_of c r ≡ at.Acting s (e ∷ []) p →
        is_guarded k c (around k r) ≡ false →
        (values : List Value) → Counts (is_final k (state_in k r p)) (counter_over k core i (around k r)) d.variables values →
        Segment (machine core) (pair k core i rows tree counts written_at) Told (core_enters d values r p)
        (Stage k i.thread_of c d) (Stage k i.thread_of (chart_enters c r p)) [] (Related k core i (chart_enters c r p))

    -- the tick
    abbrev pub Begins : Type 0
    Begins = (c d : Configuration) → Started c d → Segment (machine core) (pair k core i rows tree counts written_at) Told d NoneReached
        (Stage k i.thread_of c) [] (Related k core i c)
