-- The states that expansion makes, apart from what is inside them, keep the rules of core charts.
use Rattle.std.proofs.Common.{◌≡◌, ℕ, zero, suc, ◌<◌, ◌≤◌, Bool, true, false, ◌||◌, IsTrue, if◌then◌else◌, Option, Some, None, List, [], ◌∷◌, ◌++◌, map}
use Rattle.std.proofs.Common.{slice_get, count_by, refl, sym, subst, arith}
use Rattle.std.specs.Prelude.{filter}
use Rattle.sc_graph.specs.declared.program.Variable.{Variable}
use Rattle.sc_text.specs.declared.language.Language.TheVariants as languages
use Rattle.sc_text.specs.Parts.{IsNameIn}
use Rattle.core_charts.specs.declared.features.Features.{Features}
use Rattle.core_charts.specs.declared.features.Features.TheVariants as features
use Rattle.core_charts.specs.declared.region.Effect.{Effect}
use Rattle.core_charts.specs.declared.region.Region.{Region}
use Rattle.core_charts.specs.declared.region.State.{State}
use Rattle.core_charts.specs.declared.region.Transition.{Transition}
use Rattle.core_charts.specs.declared.region.TransitionKind.{TransitionKind}
use Rattle.core_charts.specs.declared.region.TransitionKind.TheVariants as kind
use Rattle.core_charts.specs.declared.region.Region.TheOpen.{State-F}
use Rattle.core_charts.specs.declared.region.Region.TheViews.{roll-State, out-State, out-roll-State}
use Rattle.core_charts.specs.Rules.{IsEffect, IsState, IsTransition, AreRegions, has_regions, allows, fits_state}
use Rattle.core_charts.specs.Tests.{is_join, is_strong, is_weak, at_once, strong_aborts, weak_aborts, terminations}
use Rattle.sc_text.proofs.EachItem.{Each, each_append, each_at, each_more, each_filter, each_map}
use Rattle.abort_expansion.specs.declared.flags.Flags.{Flags}
use Rattle.abort_expansion.specs.declared.places.RegionPlaces.{RegionPlaces}
use Rattle.abort_expansion.specs.Flags.{preparation_name, continuation_name, is_there, aborts_around, weak_around}
use Rattle.abort_expansion.specs.Transitions.{is_number, put, on, go, strong_checks, weak_checks, led, led_by, answers, raising}
use Rattle.abort_expansion.specs.Superstates.{simple_transitions, preparation, continuation, closing, joined_or_left, monitor_transitions, all_ended}
use Rattle.abort_expansion.proofs.Lists.{count, count_is, count_none}
use Rattle.abort_expansion.proofs.Taken.{IsFlagIfAny, AreFlags, IsTaken, ArePlaces, Goes, go_goes, no_trigger, number_trigger, putting_effects}
use Rattle.abort_expansion.proofs.Taken.{counting_effects, strong_checks_go, weak_checks_go, led_by_goes, answers_go, raising_goes}

pub no_regions : (f : Features) (variables : List Variable) (levels : ℕ) → AreRegions f variables levels []
no_regions f variables zero = refl
no_regions f variables (suc levels) = record { count = omega arith; distinct = refl; each = λ i r at. absurd cc }

-- a state of these parts
pub state_keeps : (variables : List Variable) (levels n : ℕ) (y : State-F Region State)
    → IsNameIn languages.Scl y.name → (y.is_final ≡ true → (y.regions ≡ []) × (y.transitions ≡ []))
    → AreRegions features.Core variables levels y.regions → count_by (λ t. is_join t.kind) y.transitions ≤ 1
    → Each (IsTransition features.Core variables n (has_regions y.regions)) y.transitions
    → IsState features.Core variables (AreRegions features.Core variables levels) n (roll-State y)
state_keeps variables levels n y named bare inside joins each =
    let is : y ≡ out-State (roll-State y) = sym (out-roll-State y) in
    record {
      named = subst (λ z. IsNameIn languages.Scl z.name) is named;
      bare = subst (λ z. z.is_final ≡ true → (z.regions ≡ []) × (z.transitions ≡ [])) is bare;
      regions = subst (λ z. AreRegions features.Core variables levels z.regions) is inside;
      transition_count = tt;
      one_join = subst (λ z. count_by (λ t. is_join t.kind) z.transitions ≤ 1) is joins;
      transitions =
          subst (λ z. (i : ℕ) (t : Transition) → slice_get z.transitions i ≡ Some t → IsTransition features.Core variables n (has_regions z.regions) t) is
          (each_at (IsTransition features.Core variables n (has_regions y.regions)) y.transitions each);
    }

-- of transitions that go, none is a termination
joins_not : (k : TransitionKind) → IsTrue (fits_state false k) → is_join k ≡ false
joins_not kind.Go h = refl
joins_not kind.Strong h = refl
joins_not kind.Weak h = refl
joins_not kind.Join h = absurd cc

none_joins : (variables : List Variable) (n : ℕ) (all : List Transition) → Each (Goes variables n) all → count_by (λ t. is_join t.kind) all ≤ 1
none_joins variables n all h =
    let none : count (λ t. is_join t.kind) all ≡ 0 =
    count_none (λ t. is_join t.kind) all (each_more (Goes variables n) (λ t. is_join t.kind ≡ false) all (λ t g. joins_not t.kind g.fits) h) in
    omega (arith, none, count_is (λ t. is_join t.kind) all)

-- a state without regions that is left by these transitions
pub left_by : (variables : List Variable) (levels n : ℕ) (name : List ℕ) (begins : Bool) (all : List Transition) → IsNameIn languages.Scl name
    → Each (Goes variables n) all
    → IsState features.Core variables (AreRegions features.Core variables levels) n
    (roll-State (record { name = name; is_initial = begins; is_final = false; regions = []; transitions = all }))
left_by variables levels n name begins all named h =
    state_keeps variables levels n (record { name = name; is_initial = begins; is_final = false; regions = []; transitions = all })
    named (λ is. absurd cc) (no_regions features.Core variables levels) (none_joins variables n all h) h

-- a final state
pub ended_in : (variables : List Variable) (levels n : ℕ) (name : List ℕ) (begins : Bool) → IsNameIn languages.Scl name
    → IsState features.Core variables (AreRegions features.Core variables levels) n
    (roll-State (record { name = name; is_initial = begins; is_final = true; regions = []; transitions = [] }))
ended_in variables levels n name begins named =
    state_keeps variables levels n (record { name = name; is_initial = begins; is_final = true; regions = []; transitions = [] })
    named (λ is. (refl, refl)) (no_regions features.Core variables levels) (none_joins variables n [] tt) tt

-- ---- transitions as they stand in the text

pub led_keeps : (variables : List Variable) (m n : ℕ) (at : RegionPlaces) (f : Features) (declared : List Variable) (super : Bool) (t : Transition)
    → ArePlaces variables m n at → IsTaken variables m t → IsTransition f declared m super t → IsTrue (allows features.Core t.kind)
    → IsTransition features.Core variables n super (led at t)
led_keeps variables m n at f declared super t places taken h allowed = record {
  allowed = allowed;
  fits = h.fits;
  plain_join = h.plain_join;
  trigger = taken.trigger;
  effect_count = tt;
  effects = each_at (IsEffect variables) (led at t).effects (counting_effects variables m n at t places taken);
  target = places.within t.target taken.target;
}

-- a transition of the text, of a superstate or a simple state, seen over all variables
pub record InText (declared variables : List Variable) (m : ℕ) (super : Bool) (t : Transition) : Type 0 where
  pub taken : IsTaken variables m t
  pub kept : IsTransition features.Extended declared m super t

allowed_by_go : (k : TransitionKind) → IsTrue (fits_state false k) → IsTrue (allows features.Core k)
allowed_by_go kind.Go h = refl
allowed_by_go kind.Strong h = absurd cc
allowed_by_go kind.Weak h = absurd cc
allowed_by_go kind.Join h = refl

pub simple_transitions_go : (declared variables : List Variable) (m n : ℕ) (around : List Flags) (at : RegionPlaces) (own : List Transition)
    → Each (AreFlags variables) around → (IsTrue (aborts_around around) → at.left < n) → ArePlaces variables m n at
    → Each (InText declared variables m false) own → Each (Goes variables n) (simple_transitions around at own)
simple_transitions_go declared variables m n around at own flags within places h =
    each_append (Goes variables n) (strong_checks false at.left around ++ map (led at) own) (weak_checks true at.left around)
    (each_append (Goes variables n) (strong_checks false at.left around) (map (led at) own)
    (strong_checks_go variables n at.left false around flags within)
    (each_map (Goes variables n) (led at) own
    (each_more (InText declared variables m false) (λ t. Goes variables n (led at t)) own
    (λ t g. led_keeps variables m n at features.Extended declared false t places g.taken g.kept (allowed_by_go t.kind g.kept.fits)) h)))
    (weak_checks_go variables n at.left true around flags within)

-- ---- preparation, continuation and monitor

pub preparation_keeps : (variables : List Variable) (levels m n s : ℕ) (flags : Flags) (regions : ℕ) (own : List Transition) (at : RegionPlaces) (fork : ℕ)
    (begins : Bool)
    → IsNameIn languages.Scl (preparation_name s) → AreFlags variables flags → ArePlaces variables m n at → Each (IsTaken variables m) own → fork < n
    → IsState features.Core variables (AreRegions features.Core variables levels) n (preparation s flags regions own at fork begins)
preparation_keeps variables levels m n s flags regions own at fork begins named h places taken within =
    let aborts : List Transition = at_once (strong_aborts own) in
    let first : List Transition = map (λ t. led_by at t.trigger t) aborts in
    let chosen : Each (IsTaken variables m) aborts =
    each_filter (IsTaken variables m) (λ t. t.immediate) (strong_aborts own) (each_filter (IsTaken variables m) (λ t. is_strong t.kind) own taken) in
    let effects : List Effect = on flags.strong (λ x. put x 0) ++ on flags.weak (λ x. put x 0) ++ on flags.counter (λ x. put x regions) in
    let resets_go : Goes variables n (go true None effects fork) =
    go_goes variables n true None effects fork (no_trigger variables)
    (each_append (IsEffect variables) (on flags.strong (λ x. put x 0) ++ on flags.weak (λ x. put x 0)) (on flags.counter (λ x. put x regions))
    (each_append (IsEffect variables) (on flags.strong (λ x. put x 0)) (on flags.weak (λ x. put x 0))
    (putting_effects variables flags.strong 0 h.strong) (putting_effects variables flags.weak 0 h.weak))
    (putting_effects variables flags.counter regions h.counter))
    within in
    left_by variables levels n (preparation_name s) begins (first ++ go true None effects fork ∷ []) named
    (each_append (Goes variables n) first (go true None effects fork ∷ [])
    (each_map (Goes variables n) (λ t. led_by at t.trigger t) aborts
    (each_more (IsTaken variables m) (λ t. Goes variables n (led_by at t.trigger t)) aborts
    (λ t k. led_by_goes variables m n at t.trigger t places k k.trigger) chosen))
    (resets_go, tt))

or_more : (s w a b : Bool) → (IsTrue a → IsTrue b) → IsTrue (w || a) → IsTrue ((s || w) || b)
or_more true w a b f h = refl
or_more false true a b f h = refl
or_more false false a b f h = f h

weak_is_abort : (around : List Flags) → IsTrue (weak_around around) → IsTrue (aborts_around around)
weak_is_abort [] h = absurd cc
weak_is_abort (f ∷ around) h = or_more (is_there f.strong) (is_there f.weak) (weak_around around) (aborts_around around) (weak_is_abort around) h

joined_or_left_goes : (variables : List Variable) (m n : ℕ) (at : RegionPlaces) (counter : Option ℕ) (join : Transition)
    → at.left < n → IsFlagIfAny variables counter → ArePlaces variables m n at → IsTaken variables m join
    → Each (Goes variables n) (joined_or_left at counter join)
joined_or_left_goes variables m n at (Some x) join within flag places taken = (
  led_by_goes variables m n at (Some (is_number x 0)) join places taken (number_trigger variables x 0 flag),
  (go_goes variables n true None [] at.left (no_trigger variables) tt within, tt),
)
joined_or_left_goes variables m n at None join within flag places taken =
    (go_goes variables n true None [] at.left (no_trigger variables) tt within, tt)

ended_or_left : (variables : List Variable) (m n : ℕ) (weak : Bool) (flags : Flags) (at : RegionPlaces) (join : Transition)
    → (IsTrue weak → at.left < n) → AreFlags variables flags → ArePlaces variables m n at → IsTaken variables m join
    → Each (Goes variables n) (if weak then joined_or_left at flags.counter join else led_by at None join ∷ [])
ended_or_left variables m n true flags at join within h places taken =
    joined_or_left_goes variables m n at flags.counter join (within refl) h.counter places taken
ended_or_left variables m n false flags at join within h places taken =
    (led_by_goes variables m n at None join places taken (no_trigger variables), tt)

closing_goes : (variables : List Variable) (m n : ℕ) (around : List Flags) (flags : Flags) (at : RegionPlaces) (joins : List Transition)
    → Each (AreFlags variables) around → (IsTrue (aborts_around around) → at.left < n) → AreFlags variables flags → ArePlaces variables m n at
    → Each (IsTaken variables m) joins → Each (Goes variables n) (closing around flags at joins)
closing_goes variables m n around flags at [] each within h places taken = weak_checks_go variables n at.left true around each within
closing_goes variables m n around flags at (join ∷ others) each within h places taken =
    ended_or_left variables m n (weak_around around) flags at join (λ weak. within (weak_is_abort around weak)) h places taken.0

pub continuation_keeps : (variables : List Variable) (levels m n s : ℕ) (around : List Flags) (flags : Flags) (at : RegionPlaces) (own : List Transition)
    → IsNameIn languages.Scl (continuation_name s) → Each (AreFlags variables) around → (IsTrue (aborts_around around) → at.left < n)
    → AreFlags variables flags → ArePlaces variables m n at → Each (IsTaken variables m) own
    → IsState features.Core variables (AreRegions features.Core variables levels) n (continuation s around flags at own)
continuation_keeps variables levels m n s around flags at own named each within h places taken =
    let strong : List Transition = answers at flags.strong 1 (strong_aborts own) in
    let weak : List Transition = answers at flags.weak 1 (weak_aborts own) in
    let end : List Transition = closing around flags at (terminations own) in
    let Chosen : (p : Transition → Bool) → Each (IsTaken variables m) (filter p own) = λ p. each_filter (IsTaken variables m) p own taken in
    let checks : List Transition = strong_checks true at.left around in
    left_by variables levels n (continuation_name s) false (checks ++ strong ++ weak ++ end) named
    (each_append (Goes variables n) (checks ++ strong ++ weak) end
    (each_append (Goes variables n) (checks ++ strong) weak
    (each_append (Goes variables n) checks strong
    (strong_checks_go variables n at.left true around each within)
    (answers_go variables m n at flags.strong 1 (strong_aborts own) places h.strong (Chosen (λ t. is_strong t.kind))))
    (answers_go variables m n at flags.weak 1 (weak_aborts own) places h.weak (Chosen (λ t. is_weak t.kind))))
    (closing_goes variables m n around flags at (terminations own) each within h places (Chosen (λ t. is_join t.kind))))

all_ended_goes : (variables : List Variable) (counter : Option ℕ) → IsFlagIfAny variables counter → Each (Goes variables 2) (all_ended counter)
all_ended_goes variables (Some x) h =
    (go_goes variables 2 true (Some (is_number x 0)) [] 1 (number_trigger variables x 0 h) tt (omega arith), tt)
all_ended_goes variables None h = tt

-- the first state of a monitor, of two
pub monitor_goes : (variables : List Variable) (m : ℕ) (around : List Flags) (flags : Flags) (own : List Transition)
    → Each (AreFlags variables) around → AreFlags variables flags → Each (IsTaken variables m) own
    → Each (Goes variables 2) (monitor_transitions around flags own)
monitor_goes variables m around flags own each h taken =
    let strong : List Transition = raising (λ t. false) 1 flags.strong 1 (strong_aborts own) in
    let weak : List Transition = raising (λ t. t.immediate) 1 flags.weak 1 (weak_aborts own) in
    let end : List Transition = all_ended flags.counter in
    let checks : List Transition = weak_checks true 1 around in
    let first : List Transition = strong_checks false 1 around in
    each_append (Goes variables 2) (first ++ strong ++ weak ++ end) checks
    (each_append (Goes variables 2) (first ++ strong ++ weak) end
    (each_append (Goes variables 2) (first ++ strong) weak
    (each_append (Goes variables 2) first strong
    (strong_checks_go variables 2 1 false around each (λ there. omega arith))
    (raising_goes variables m 2 1 (λ t. false) flags.strong 1 (strong_aborts own) (omega arith) h.strong
    (each_filter (IsTaken variables m) (λ t. is_strong t.kind) own taken)))
    (raising_goes variables m 2 1 (λ t. t.immediate) flags.weak 1 (weak_aborts own) (omega arith) h.weak
    (each_filter (IsTaken variables m) (λ t. is_weak t.kind) own taken)))
    (all_ended_goes variables flags.counter h.counter))
    (weak_checks_go variables 2 1 true around each (λ there. omega arith))
