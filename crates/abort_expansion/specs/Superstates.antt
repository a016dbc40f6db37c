-- What simple states and superstates become, over what is inside a superstate.
use Rattle.std.specs.Prelude.{ℕ, suc, ◌+◌, Bool, true, false, not, ◌||◌, Option, Some, None, List, [], ◌∷◌, ◌++◌, map, if◌then◌else◌}
use Rattle.core_charts.specs.declared.region.Transition.{Transition}
use Rattle.core_charts.specs.declared.region.TransitionKind.TheVariants as kind
use Rattle.core_charts.specs.declared.region.Region.{Region}
use Rattle.core_charts.specs.declared.region.State.{State}
use Rattle.core_charts.specs.declared.region.Region.TheViews.{roll-Region, roll-State}
use Rattle.core_charts.specs.Tests.{at_once, strong_aborts, weak_aborts, terminations}
use Rattle.core_charts.specs.Aborts.{has_aborts}
use Rattle.abort_expansion.specs.declared.flags.Flags.{Flags}
use Rattle.abort_expansion.specs.declared.places.RegionPlaces.{RegionPlaces}
use Rattle.abort_expansion.specs.declared.pieces.StatePieces.{StatePieces}
use Rattle.abort_expansion.specs.declared.pieces.Regions.{Regions}
use Rattle.abort_expansion.specs.declared.pieces.NextNumbers.{NextNumbers}
use Rattle.abort_expansion.specs.Flags.{preparation_name, continuation_name, monitor_name, watching_name, abandoned_name, counts, flag_count, declarations}
use Rattle.abort_expansion.specs.Flags.{aborts_around, weak_around}
use Rattle.abort_expansion.specs.Transitions.{is_number, put, on, go, strong_checks, weak_checks, led, led_by, answers, raising}
use Rattle.core_charts.specs.declared.region.Effect.{Effect}
use Rattle.abort_expansion.specs.Pieces.{beside}

-- ---- simple states

-- a simple state that is not final: strong checks, its own transitions, and weak checks, which are immediate
abbrev pub simple_transitions : List Flags → RegionPlaces → List Transition → List Transition
simple_transitions around at own =
    strong_checks false at.left around ++ map (led at) own ++ weak_checks true at.left around

-- a simple state of this name and these transitions, by whether it is final
abbrev pub simple : Bool → (name : List ℕ) → List Transition → List Flags → RegionPlaces → Bool → State
simple true name own around at begins =
    roll-State (record { name = name; is_initial = begins; is_final = true; regions = []; transitions = [] })
simple false name own around at begins =
    roll-State
    (record {
      name = name;
      is_initial = begins;
      is_final = false;
      regions = [];
      transitions = simple_transitions around at own;
    })

-- ---- superstates

-- whether it stays as it is: it has no aborts, and none enclose it
abbrev pub stays : List Flags → List Transition → Bool
stays around own = not (has_aborts own || aborts_around around)

-- whether it is prepared: it has aborts, or counts
abbrev pub is_prepared : List Flags → List Transition → Bool
is_prepared around own = has_aborts own || counts (weak_around around) own

-- the flags and the counter as they are where a superstate with so many regions is entered
abbrev pub resets : Flags → (regions : ℕ) → List Effect
resets flags regions =
    on flags.strong (λ x. put x 0) ++ on flags.weak (λ x. put x 0) ++ on flags.counter (λ x. put x regions)

-- the preparation state: the immediate strong aborts; then the flags and the counter are set, and the fork is entered
abbrev pub preparation : (s : ℕ) → Flags → (regions : ℕ) → List Transition → RegionPlaces → (fork : ℕ) → Bool → State
preparation s flags regions own at fork begins =
    roll-State
    (record {
      name = preparation_name s;
      is_initial = begins;
      is_final = false;
      regions = [];
      transitions = map (λ t. led_by at t.trigger t) (at_once (strong_aborts own)) ++
          go true None (resets flags regions) fork ∷ [];
    })

-- in the monitor, where a termination is counted: all regions have ended
abbrev pub all_ended : Option ℕ → List Transition
all_ended (Some x) = go true (Some (is_number x 0)) [] 1 ∷ []
all_ended None = []

-- the abort monitor: a region that ends when the superstate is to be left. All transitions of its first state lead to
-- its end
abbrev pub monitor_transitions : List Flags → Flags → List Transition → List Transition
monitor_transitions around flags own =
    strong_checks false 1 around ++ raising (λ t. false) 1 flags.strong 1 (strong_aborts own) ++
    raising (λ t. t.immediate) 1 flags.weak 1 (weak_aborts own) ++ all_ended flags.counter ++ weak_checks true 1 around

abbrev pub abandoned : State
abandoned =
    roll-State (record { name = abandoned_name; is_initial = false; is_final = true; regions = []; transitions = [] })

abbrev pub monitor : (s : ℕ) → List Flags → Flags → List Transition → Region
monitor s around flags own =
    roll-Region
    (record {
      name = monitor_name s;
      states = roll-State (record {
        name = watching_name;
        is_initial = true;
        is_final = false;
        regions = [];
        transitions = monitor_transitions around flags own;
      }) ∷ abandoned ∷ [];
    })

-- the termination, where weak aborts enclose the superstate: taken if all regions have ended, else the superstate is
-- left
abbrev pub joined_or_left : RegionPlaces → Option ℕ → Transition → List Transition
joined_or_left at (Some x) join = led_by at (Some (is_number x 0)) join ∷ go true None [] at.left ∷ []
joined_or_left at None join = go true None [] at.left ∷ []

-- what the continuation state does where no flag is raised
abbrev pub closing : List Flags → Flags → RegionPlaces → List Transition → List Transition
closing around flags at [] = weak_checks true at.left around
closing around flags at (join ∷ others) =
    if weak_around around then joined_or_left at flags.counter join else led_by at None join ∷ []

-- the continuation state: strong checks, then the aborts by their numbers, strong ones first, and then the termination
abbrev pub continuation : (s : ℕ) → List Flags → Flags → RegionPlaces → List Transition → State
continuation s around flags at own =
    roll-State
    (record {
      name = continuation_name s;
      is_initial = false;
      is_final = false;
      regions = [];
      transitions = strong_checks true at.left around ++ answers at flags.strong 1 (strong_aborts own) ++
          answers at flags.weak 1 (weak_aborts own) ++ closing around flags at (terminations own);
    })

abbrev pub watched : Bool → Region → List Region
watched true monitor = monitor ∷ []
watched false monitor = []

-- the fork: the expanded regions, and the monitor where the superstate has aborts
abbrev pub fork : List ℕ → Bool → List Region → (continuation : ℕ) → State
fork name begins regions target =
    roll-State
    (record {
      name = name;
      is_initial = begins;
      is_final = false;
      regions = regions;
      transitions = record { kind = kind.Join; immediate = false; trigger = None; effects = []; target = target } ∷ [];
    })

-- what is inside a superstate of these numbers: its own number and variables are passed
abbrev pub within : Bool → List Transition → NextNumbers → NextNumbers
within weak own at =
    record { superstate = suc at.superstate; variable = at.variable + flag_count weak own; state = suc at.state }

-- a superstate without aborts that none enclose: as it is, with expanded regions
abbrev pub as_it_is : (name : List ℕ) → List Transition → Regions → RegionPlaces → Bool → NextNumbers → StatePieces
as_it_is name own inside to begins at =
    record {
      states = roll-State (record {
        name = name;
        is_initial = begins;
        is_final = false;
        regions = inside.regions;
        transitions = map (led to) own;
      }) ∷ [];
      variables = inside.variables;
      stands_for = Some at.state ∷ inside.stands_for;
    }

-- the preparation state alone
abbrev pub prepared : (regions : ℕ) → List Transition → Flags → RegionPlaces → ℕ → Bool → NextNumbers → StatePieces
prepared regions own flags to place begins at =
    record {
      states = preparation at.superstate flags regions own to (suc place) begins ∷ [];
      variables = [];
      stands_for = Some at.state ∷ [];
    }

-- the fork with what is inside it, a monitor's two states among it, and the continuation state
abbrev pub forked : (name : List ℕ) → List Transition → List Flags → Flags → Regions → RegionPlaces → ℕ → Bool → NextNumbers
    → StatePieces
forked name own around flags inside to place begins at =
    record {
      states =
          fork name begins (inside.regions ++ watched (has_aborts own) (monitor at.superstate around flags own)) (suc place) ∷
          continuation at.superstate around flags to own ∷ [];
      variables = declarations at.superstate flags ++ inside.variables;
      stands_for =
          Some at.state ∷ inside.stands_for ++ (if has_aborts own then None ∷ None ∷ [] else []) ++ Some at.state ∷ [];
    }

-- any other one: the preparation state where it is prepared, the fork, and the continuation state
abbrev pub split : (name : List ℕ) → (regions : ℕ) → List Transition → List Flags → Flags → Regions → RegionPlaces → ℕ → Bool
    → NextNumbers → StatePieces
split name regions own around flags inside to place begins at =
    if is_prepared around own
    then beside (prepared regions own flags to place begins at)
    (forked name own around flags inside to (suc place) false at)
    else forked name own around flags inside to place begins at

-- a superstate of this name, so many regions and these transitions, over what is inside it
abbrev pub superstate_over : (name : List ℕ) → (regions : ℕ) → List Transition → List Flags → Flags → Regions → RegionPlaces → ℕ
    → Bool → NextNumbers → StatePieces
superstate_over name regions own around flags inside to place begins at =
    if stays around own
    then as_it_is name own inside to begins at
    else split name regions own around flags inside to place begins at
