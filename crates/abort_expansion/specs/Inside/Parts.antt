-- Parts of the states that expansion makes of a superstate.
use Rattle.std.specs.Prelude.{ℕ, suc, Bool, true, false, Option, Some, None, List, [], ◌∷◌, ◌++◌, map, if◌then◌else◌}
use Rattle.core_charts.specs.declared.region.Transition.{Transition}
use Rattle.core_charts.specs.declared.region.Region.{Region}
use Rattle.core_charts.specs.declared.region.State.{State}
use Rattle.core_charts.specs.declared.region.Region.TheViews.{roll-State}
use Rattle.core_charts.specs.Aborts.{has_aborts}
use Rattle.core_charts.specs.Tests.{at_once, strong_aborts, weak_aborts, terminations}
use Rattle.abort_expansion.specs.declared.flags.Flags.{Flags}
use Rattle.abort_expansion.specs.declared.places.RegionPlaces.{RegionPlaces}
use Rattle.abort_expansion.specs.declared.pieces.NextNumbers.{NextNumbers}
use Rattle.abort_expansion.specs.Flags.{watching_name}
use Rattle.abort_expansion.specs.Transitions.{go, strong_checks, led, led_by, answers}
use Rattle.abort_expansion.specs.Superstates.{resets, monitor_transitions, monitor, closing, continuation, watched, fork}

-- what the preparation state does
abbrev pub preparing : Flags → (regions : ℕ) → List Transition → RegionPlaces → (fork : ℕ) → List Transition
preparing flags regions own at fork =
    map (λ t. led_by at t.trigger t) (at_once (strong_aborts own)) ++ go true None (resets flags regions) fork ∷ []

-- the first state of an abort monitor
abbrev pub watching : List Flags → Flags → List Transition → State
watching around flags own =
    roll-State
    (record {
      name = watching_name;
      is_initial = true;
      is_final = false;
      regions = [];
      transitions = monitor_transitions around flags own;
    })

-- what the continuation state does
abbrev pub continuing : List Flags → Flags → RegionPlaces → List Transition → List Transition
continuing around flags at own =
    strong_checks true at.left around ++ answers at flags.strong 1 (strong_aborts own) ++
    answers at flags.weak 1 (weak_aborts own) ++ closing around flags at (terminations own)

-- a superstate that stays as it is, over its expanded regions
abbrev pub kept : (name : List ℕ) → List Transition → List Region → RegionPlaces → Bool → State
kept name own regions to begins =
    roll-State
    (record {
      name = name;
      is_initial = begins;
      is_final = false;
      regions = regions;
      transitions = map (led to) own;
    })

-- the fork over what is inside it, with the monitor, and the continuation state
abbrev pub forked_states : (name : List ℕ) → List Transition → List Flags → Flags → List Region → RegionPlaces → ℕ → Bool → NextNumbers
    → List State
forked_states name own around flags inside to place begins at =
    fork name begins (inside ++ watched (has_aborts own) (monitor at.superstate around flags own)) (suc place) ∷
    continuation at.superstate around flags to own ∷ []

-- the states of a monitor stand for none, where it is there
abbrev pub monitor_stands_for : Bool → List (Option ℕ)
monitor_stands_for watched = if watched then None ∷ None ∷ [] else []

-- for which states the fork, what is inside it and the continuation state stand
abbrev pub fork_stands_for : Bool → ℕ → List (Option ℕ) → List (Option ℕ)
fork_stands_for watched state inside = Some state ∷ inside ++ monitor_stands_for watched ++ Some state ∷ []
