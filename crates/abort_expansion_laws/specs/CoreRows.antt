-- What stands in the table of a core chart for each region, state and superstate of the chart, by numbers. This is what
-- the structure of the expansion owes to the simulation, and no more.
use Rattle.std.specs.Prelude.{◌≡◌, ◌≢◌, ℕ, ◌<◌, ◌≤◌, ◌⊎◌, Bool, true, false, Option, Some, None, List, [], ◌∷◌, ◌++◌, map, length, slice_get, unwrap_or}
use Rattle.std.specs.Prelude.{Contains, if◌then◌else◌}
use Rattle.std.specs.Prelude.{reverse}
use Rattle.sc_graph.specs.declared.program.Variable.{Variable}
use Rattle.core_charts.specs.declared.region.Transition.{Transition}
use Rattle.core_charts.specs.declared.region.TransitionKind.TheVariants as kind
use Rattle.core_charts.specs.Tests.{at_once, strong_aborts, weak_aborts, terminations}
use Rattle.core_charts.specs.Aborts.{has_aborts}
use Rattle.chart_machine.specs.declared.standing.Standing.TheVariants as at
use Rattle.chart_machine.specs.declared.standing.Move.{Move}
use Rattle.chart_machine.specs.declared.table.StateRow.{StateRow}
use Rattle.chart_machine.specs.declared.table.Table.{Table}
use Rattle.chart_machine.specs.Table.{state_at, region_at}
use Rattle.chart_machine.specs.Turns.{has_ended}
use Rattle.chart_machine.specs.Steps.{to, state_in}
use Rattle.abort_expansion.specs.declared.flags.Flags.{Flags}
use Rattle.abort_expansion.specs.declared.places.RegionPlaces.{RegionPlaces}
use Rattle.abort_expansion.specs.Flags.{aborts_around}
use Rattle.abort_expansion.specs.Transitions.{go, place_of, led, led_by, strong_checks, answers}
use Rattle.abort_expansion.specs.Superstates.{simple_transitions, stays, is_prepared, resets, monitor_transitions, closing}
use Rattle.chart_machine_laws.specs.Tree.{IsNested, around, holder}
use Rattle.chart_machine_laws.specs.Tree.{IsThere}
use Rattle.abort_expansion_laws.specs.Expanded.{Expanded, pair_of}
use Rattle.abort_expansion_laws.specs.Stages.{Correspondence}

-- ---- of the chart's own table

abbrev pub own : Table → ℕ → List Transition
own k s = (state_at k s).transitions

abbrev pub IsState : Table → ℕ → Type 0
IsState k s = s < length k.states

abbrev pub ends : List Move → Bool
ends (m ∷ []) = has_ended m.standing
ends other = false

-- a final state ends its region where it is entered
abbrev pub is_final : Table → ℕ → Bool
is_final k s = ends (state_at k s).entered

abbrev pub IsSuper : Table → ℕ → Type 0
IsSuper k s = (state_at k s).regions ≢ []

pub record IsSimple (k : Table) (s : ℕ) : Type 0 where
  pub there : IsState k s
  pub no_regions : (state_at k s).regions ≡ []
  pub not_final : is_final k s ≡ false

-- ---- the join of a fork

abbrev pub joins : ℕ → Transition
joins place = record { kind = kind.Join; immediate = false; trigger = None; effects = []; target = place }

-- a simple state of the core: by its number, the thread that holds it and its transitions
abbrev pub simple_row : (thread n : ℕ) → List Transition → StateRow
simple_row thread n all =
    record { holder = thread; regions = []; transitions = all; entered = to thread (at.Trying n (at_once all)) ∷ []; opened = [] }

abbrev pub fork_row : (thread n : ℕ) → List ℕ → List Transition → List Move → StateRow
fork_row thread n regions all opened =
    record { holder = thread; regions = regions; transitions = all; entered = to thread (at.Within n (terminations all)) ∷ opened; opened = opened }

-- what stands for what
pub record Images : Type 0 where
  -- of a region: its thread, and where the places of its states are
  pub thread_of : ℕ → ℕ
  pub places_of : ℕ → RegionPlaces
  -- of a state: where the thread stands in it, where transitions to it lead, and what follows its fork
  pub main_of : ℕ → ℕ
  pub entry_of : ℕ → ℕ
  pub behind_of : ℕ → ℕ
  -- of a superstate: its flags; of one with aborts its monitor, and the monitor's two states
  pub flags_of : ℕ → Flags
  pub watcher_of : ℕ → ℕ
  pub watching_of : ℕ → ℕ
  pub watched_of : ℕ → ℕ

module _ (k core : Table) (i : Images) where
  -- the flags of the superstates around a region, the outermost first
  abbrev pub flags_around : ℕ → List Flags
  flags_around r = map i.flags_of (reverse (around k r))

  -- the counter of the superstate that holds the region
  abbrev pub counter_over : List ℕ → Option ℕ
  counter_over [] = None
  counter_over (s ∷ ss) = (i.flags_of s).counter

  abbrev pub watchers : ℕ → List ℕ
  watchers s = if has_aborts (own k s) then i.watcher_of s ∷ [] else []

  abbrev pub prepared_transitions : (r s fork : ℕ) → List Transition
  prepared_transitions r s fork =
      map (λ t. led_by (i.places_of r) t.trigger t) (at_once (strong_aborts (own k s)))
      ++ go true None (resets (i.flags_of s) (length (state_at k s).regions)) fork ∷ []

  abbrev pub behind_transitions : (r s : ℕ) → List Transition
  behind_transitions r s =
      strong_checks true (i.places_of r).left (flags_around r) ++ answers (i.places_of r) (i.flags_of s).strong 1 (strong_aborts (own k s))
      ++ answers (i.places_of r) (i.flags_of s).weak 1 (weak_aborts (own k s)) ++ closing (flags_around r) (i.flags_of s) (i.places_of r)
      (terminations (own k s))

  -- of a region: where the places of its transitions lead in the core
  pub record RegionImage (r : ℕ) : Type 0 where
    pub there : IsThere core (i.thread_of r)
    pub counter : (i.places_of r).counter ≡ counter_over (around k r)
    pub places : (p : ℕ) → p < length (region_at k r).states → state_in core (i.thread_of r) (place_of (i.places_of r) p) ≡ i.entry_of (state_in k r p)
    pub finals : (p : ℕ) → p < length (region_at k r).states → unwrap_or (slice_get (i.places_of r).finals p) false ≡ is_final k (state_in k r p)
    pub holds : (p : ℕ) → p < length (region_at k r).states → holder k (state_in k r p) ≡ r
    -- the abandoned state
    pub left : aborts_around (flags_around r) ≡ true → (state_at core (state_in core (i.thread_of r) (i.places_of r).left)).entered ≡ to (i.thread_of r)
        at.Ended ∷ []

  -- of a simple state, and of a final one
  pub record SimpleImage (s : ℕ) : Type 0 where
    pub row : state_at core (i.main_of s) ≡ simple_row (i.thread_of (holder k s)) (i.main_of s)
        (simple_transitions (flags_around (holder k s)) (i.places_of (holder k s)) (own k s))
    pub entry : i.entry_of s ≡ i.main_of s

  pub record FinalImage (s : ℕ) : Type 0 where
    pub ended : (state_at core (i.entry_of s)).entered ≡ to (i.thread_of (holder k s)) at.Ended ∷ []

  -- of a superstate that stays as it is
  pub record StayingImage (s : ℕ) : Type 0 where
    pub row : state_at core (i.main_of s) ≡ fork_row (i.thread_of (holder k s)) (i.main_of s) (map i.thread_of (state_at k s).regions)
        (map (led (i.places_of (holder k s))) (own k s)) (state_at core (i.main_of s)).opened
    pub entry : i.entry_of s ≡ i.main_of s

  -- of one that is split: the fork, the continuation, and the preparation where it has one
  pub record SplitImage (s : ℕ) : Type 0 where
    pub join : ℕ
    pub row : state_at core (i.main_of s) ≡ fork_row (i.thread_of (holder k s)) (i.main_of s) (map i.thread_of (state_at k s).regions ++ watchers s)
        (joins join ∷ []) (state_at core (i.main_of s)).opened
    pub joined : state_in core (i.thread_of (holder k s)) join ≡ i.behind_of s
    pub behind : state_at core (i.behind_of s) ≡ simple_row (i.thread_of (holder k s)) (i.behind_of s) (behind_transitions (holder k s) s)
    pub prepared : is_prepared (flags_around (holder k s)) (own k s) ≡ true →
        (fork : ℕ) × (state_in core (i.thread_of (holder k s)) fork ≡ i.main_of s)
        × (state_at core (i.entry_of s) ≡ simple_row (i.thread_of (holder k s)) (i.entry_of s) (prepared_transitions (holder k s) s fork))
    pub plain : is_prepared (flags_around (holder k s)) (own k s) ≡ false → i.entry_of s ≡ i.main_of s

  -- of one with aborts: its monitor
  pub record WatcherImage (s : ℕ) : Type 0 where
    pub there : IsThere core (i.watcher_of s)
    pub encloses : around core (i.watcher_of s) ≡ i.main_of s ∷ around core (i.thread_of (holder k s))
    pub no_thread : (r : ℕ) → i.thread_of r ≢ i.watcher_of s
    pub row : state_at core (i.watching_of s) ≡ simple_row (i.watcher_of s) (i.watching_of s)
        (monitor_transitions (flags_around (holder k s)) (i.flags_of s) (own k s))
    pub ended : state_in core (i.watcher_of s) 1 ≡ i.watched_of s
    pub watched : (state_at core (i.watched_of s)).entered ≡ to (i.watcher_of s) at.Ended ∷ []

  -- all together
  pub record CoreRows : Type 0 where
    -- the core declares the chart's variables first
    pub added : List Variable
    pub variables : core.variables ≡ k.variables ++ added
    -- who has aborts has their flags; flags and counters are no declared variables
    pub strong_there : (s n : ℕ) (t : Transition) → IsState k s → slice_get (strong_aborts (own k s)) n ≡ Some t → (x : ℕ) × ((i.flags_of s).strong ≡ Some x)
    pub weak_there : (s n : ℕ) (t : Transition) → IsState k s → slice_get (weak_aborts (own k s)) n ≡ Some t → (x : ℕ) × ((i.flags_of s).weak ≡ Some x)
    pub strong_added : (s x : ℕ) → (i.flags_of s).strong ≡ Some x → length k.variables ≤ x
    pub weak_added : (s x : ℕ) → (i.flags_of s).weak ≡ Some x → length k.variables ≤ x
    pub counter_added : (s x : ℕ) → (i.flags_of s).counter ≡ Some x → length k.variables ≤ x
    -- numbers without a region have threads that the core has not, and numbers without a state stand for such
    pub root : i.thread_of 0 ≡ 0
    pub region_once : (r q : ℕ) → i.thread_of r ≡ i.thread_of q → r ≡ q
    pub there_back : (r : ℕ) → IsThere core (i.thread_of r) → IsThere k r
    pub main_once : (s u : ℕ) → i.main_of s ≡ i.main_of u → s ≡ u
    pub encloses : (r : ℕ) → around core (i.thread_of r) ≡ map i.main_of (around k r)
    pub held : (s : ℕ) → holder core (i.main_of s) ≡ i.thread_of (holder k s)
    -- of a flag or a counter: its superstate
    pub of_flag : ℕ → ℕ
    pub watcher_around : (x : ℕ) →
        (around core (i.watcher_of (of_flag x)) ≡ i.main_of (of_flag x) ∷ around core (holder core (i.main_of (of_flag x))))
        ⊎ ((i.watcher_of (of_flag x) ≡ holder core (i.main_of (of_flag x))) × ((t : ℕ) → ¬ Contains (around core t) (i.main_of (of_flag x))))
    pub region : (r : ℕ) → IsThere k r → RegionImage r
    pub simple : (s : ℕ) → IsSimple k s → SimpleImage s
    pub final : (s : ℕ) → is_final k s ≡ true → FinalImage s
    pub staying : (s : ℕ) → IsState k s → IsSuper k s → stays (flags_around (holder k s)) (own k s) ≡ true → StayingImage s
    pub split : (s : ℕ) → IsState k s → IsSuper k s → stays (flags_around (holder k s)) (own k s) ≡ false → SplitImage s
    pub watcher : (s : ℕ) → IsState k s → has_aborts (own k s) ≡ true → WatcherImage s
    pub each : (t : ℕ) → IsThere core t → ((r : ℕ) × IsThere k r × (t ≡ i.thread_of r)) ⊎
        ((s : ℕ) × IsState k s × (has_aborts (own k s) ≡ true) × (t ≡ i.watcher_of s))

  -- what the matching of both tables needs
  abbrev pub expanded_of : CoreRows → Expanded k core
  expanded_of rows =
      record {
        thread_of = i.thread_of;
        fork_of = i.main_of;
        watcher_of = i.watcher_of;
        Owns = λ s. IsState k s × (has_aborts (own k s) ≡ true);
        root = rows.root;
        one_region = rows.region_once;
        one_fork = rows.main_once;
        there_back = rows.there_back;
        around_of = rows.encloses;
        held = rows.held;
        around_watcher = λ s owns. (rows.watcher s owns.0 owns.1).encloses;
        of_flag = rows.of_flag;
        watcher_around = rows.watcher_around;
      }

-- the tables as a correspondence; flags and counters are the variables behind the declared ones
module _ (k core : Table) (i : Images) (rows : CoreRows k core i) (tree : IsNested k) (counts : ℕ → Bool) (written_at : ℕ → ℕ) where
  abbrev pub pair : Correspondence
  pair = pair_of k core (expanded_of k core i rows) (length k.variables) counts written_at
