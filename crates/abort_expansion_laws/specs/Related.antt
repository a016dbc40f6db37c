-- A configuration of a chart within a tick, and that of its core chart which stands for it. The core's is given by the
-- chart's, but for monitors that have yet to look at strong flags around: weak checks and the count test of a monitor are always held
-- back to the end of the tick, or to an abort.
use Rattle.std.specs.Prelude.{◌≡◌, ◌≢◌, ℕ, suc, ◌+◌, ◌<◌, Bool, true, false, not, ◌&&◌, pos, Option, Some, None, List, [], ◌∷◌, ◌++◌, map, length, slice_get}
use Rattle.std.specs.Prelude.{Contains, if◌then◌else◌, reverse, flat_map}
use Rattle.std.specs.List.{list_all}
use Rattle.sc_values.specs.declared.value.Value.{Value}
use Rattle.sc_values.specs.declared.value.Value.TheVariants as value_is
use Rattle.core_charts.specs.declared.region.Effect.{Effect}
use Rattle.core_charts.specs.declared.region.Transition.{Transition}
use Rattle.core_charts.specs.Tests.{strong_aborts, weak_aborts, terminations, is_join}
use Rattle.core_charts.specs.Aborts.{has_aborts}
use Rattle.chart_machine.specs.declared.standing.Standing.{Standing}
use Rattle.chart_machine.specs.declared.standing.Standing.TheVariants as at
use Rattle.chart_machine.specs.declared.standing.Configuration.{Configuration}
use Rattle.chart_machine.specs.declared.table.Table.{Table}
use Rattle.chart_machine.specs.Table.{state_at, region_at}
use Rattle.chart_machine.specs.Turns.{standing_of, has_ended, guards as has_to_guard}
use Rattle.chart_machine.specs.Steps.{state_in}
use Rattle.abort_expansion.specs.declared.flags.Flags.{Flags}
use Rattle.abort_expansion.specs.Flags.{has_join}
use Rattle.abort_expansion.specs.Transitions.{put, go, place_of, counting, led, led_by, check, strong_checks, weak_checks, raising}
use Rattle.abort_expansion.specs.Superstates.{stays, is_prepared, resets, all_ended}
use Rattle.chart_machine_laws.specs.Tree.{around, holder}
use Rattle.chart_machine_laws.specs.Tree.{IsThere}
use Rattle.abort_expansion_laws.specs.CoreRows.{own, IsState, IsSuper, IsSimple, joins, Images, flags_around}

abbrev pub Each : {A : Type 0} → (A → Type 0) → List A → Type 0
Each P [] = Unit {0}
Each P (x ∷ xs) = P x × Each P xs

-- whoever is inside of a superstate whose holder guards has only been woken
pub data IsCalm : Standing → Type 0 where
  calm_outside : IsCalm at.Outside
  calm_ended : IsCalm at.Ended
  calm_trying : (s : ℕ) (tests : List Transition) → IsCalm (at.Trying s tests)
  calm_within : (s : ℕ) (tests : List Transition) → IsCalm (at.Within s tests)
  calm_guarding : (s : ℕ) (tests : List Transition) → IsCalm (at.Guarding s tests)

-- these are some of all, each with its number
abbrev pub AreAmong : List Transition → List (ℕ × Transition) → Type 0
AreAmong all some = Each (λ x. slice_get all x.0 ≡ Some x.1) some

-- the monitor's test of the abort with this number, from 0
abbrev pub raises : (Transition → Bool) → ℕ → ℕ × Transition → Transition
raises immediate flag x = go (immediate x.1) x.1.trigger (put flag (suc x.0) ∷ []) 1

abbrev pub raise_each : (Transition → Bool) → Option ℕ → List (ℕ × Transition) → List Transition
raise_each immediate (Some flag) some = map (raises immediate flag) some
raise_each immediate None some = []

module _ (k core : Table) (i : Images) where
  abbrev pub thread : ℕ → ℕ
  thread r = i.thread_of r

  abbrev pub flags_here : ℕ → List Flags
  flags_here r = flags_around k core i r

  -- the strong check of a superstate stands in front as long as its strong aborts are still to be tested
  abbrev pub ahead : Bool → (place : ℕ) → Configuration → ℕ → List Transition
  ahead immediate place c s = if has_to_guard (standing_of c (holder k s)) then check immediate place (i.flags_of s).strong else []

  -- those of all superstates around, the outermost first; they are delayed in a simple state, and not in a continuation
  abbrev pub front : Bool → Configuration → ℕ → List Transition
  front immediate c r = flat_map (λ s. ahead immediate (i.places_of r).left c s) (reverse (around k r))

  -- the weak checks, which are held back
  abbrev pub held_back : ℕ → List Transition
  held_back r = weak_checks true (i.places_of r).left (flags_here r)

  -- the looks of a monitor at the strong flags of these superstates around it, the outermost first
  abbrev pub looks_at : List ℕ → List Transition
  looks_at yet = strong_checks false 1 (map i.flags_of yet)

  -- what a monitor has behind the tests of aborts: the count test, and weak checks, which are held back as well
  abbrev pub monitor_last : ℕ → List Transition
  monitor_last o = all_ended (i.flags_of o).counter ++ weak_checks true 1 (flags_here (holder k o))

  abbrev pub tests_of : Configuration → ℕ → List Transition → List Transition
  tests_of c r tests = front false c r ++ map (led (i.places_of r)) tests ++ held_back r

  -- a superstate that can only be left from outside, with the fork of its core over: its thread is behind it
  abbrev pub is_behind : Configuration → ℕ → Bool
  is_behind c s =
      not (stays (flags_here (holder k s)) (own k s)) && (not (has_aborts (own k s)) && (not (has_join (own k s))
      && list_all (λ r. has_ended (standing_of c r)) (state_at k s).regions))

  -- ---- where a region stands, and where its thread does

  pub data Stands (c : Configuration) (r : ℕ) : Standing → Standing → Type 0 where
    outside : Stands c r at.Outside at.Outside
    ended : ((s : ℕ) (ss : List ℕ) → around k r ≡ s ∷ ss → is_behind c s ≡ false) → Stands c r at.Ended at.Ended
    -- dropped with the fork of the superstate around it
    left : (s : ℕ) (ss : List ℕ) → around k r ≡ s ∷ ss → is_behind c s ≡ true → Stands c r at.Ended at.Outside
    trying : (s : ℕ) (tests : List Transition) → IsSimple k s → holder k s ≡ r → Stands c r (at.Trying s tests) (at.Trying (i.main_of s) (tests_of c r tests))
    -- whichever state the transition comes from
    acting : (s u p : ℕ) (e : Effect) (effects : List Effect) → p < length (region_at k r).states →
        Stands c r (at.Acting s (e ∷ effects) p) (at.Acting u (counting (i.places_of r) p (e ∷ effects)) (place_of (i.places_of r) p))
    entering : (s fork : ℕ) (t : Transition) (tests : List Transition) → IsSuper k s × (is_prepared (flags_here r) (own k s) ≡ true) → holder k s ≡ r →
        state_in core (thread r) fork ≡ i.main_of s →
        Stands c r (at.Entering s (t ∷ tests))
        (at.Trying (i.entry_of s) (map (λ z. led_by (i.places_of r) z.trigger z) (t ∷ tests) ++ go true None
        (resets (i.flags_of s) (length (state_at k s).regions)) fork ∷ []))
    guarding : (s join : ℕ) (t : Transition) (tests : List Transition) → has_aborts (own k s) ≡ true → holder k s ≡ r → state_in core (thread r) join
        ≡ i.behind_of s →
        Stands c r (at.Guarding s (t ∷ tests)) (at.Within (i.main_of s) (joins join ∷ []))
    staying : (s : ℕ) (tests : List Transition) → IsSuper k s → holder k s ≡ r → stays (flags_here r) (own k s) ≡ true →
        Stands c r (at.Within s tests) (at.Within (i.main_of s) (map (led (i.places_of r)) tests))
    within : (s join : ℕ) (tests : List Transition) → IsSuper k s → holder k s ≡ r → stays (flags_here r) (own k s) ≡ false → is_behind c s ≡ false →
        state_in core (thread r) join ≡ i.behind_of s → Stands c r (at.Within s tests) (at.Within (i.main_of s) (joins join ∷ []))
    behind : (s : ℕ) (tests : List Transition) → IsSuper k s → holder k s ≡ r → is_behind c s ≡ true →
        Stands c r (at.Within s tests) (at.Trying (i.behind_of s) (front true c r ++ held_back r))

  -- ---- where the monitor of superstate o stands, by where the region does that holds o

  pub data Watches (o : ℕ) : Standing → Standing → Type 0 where
    guards : (some : List (ℕ × Transition)) → AreAmong (strong_aborts (own k o)) some →
        Watches o (at.Guarding o (map (λ x. x.1) some))
        (at.Trying (i.watching_of o) (raise_each (λ t. false) (i.flags_of o).strong some
        ++ (raising (λ t. t.immediate) 1 (i.flags_of o).weak 1 (weak_aborts (own k o)) ++ monitor_last o)))
    -- it has yet to look at strong flags around, before its first strong test
    looks_strong : (yet seen : List ℕ) → around k (holder k o) ≡ reverse yet ++ seen → (some : List (ℕ × Transition)) →
        AreAmong (strong_aborts (own k o)) some →
        Watches o (at.Guarding o (map (λ x. x.1) some))
        (at.Trying (i.watching_of o) (looks_at yet ++ (raise_each (λ t. false) (i.flags_of o).strong some
        ++ (raising (λ t. t.immediate) 1 (i.flags_of o).weak 1 (weak_aborts (own k o)) ++ monitor_last o))))
    waits : (some : List (ℕ × Transition)) (joins : List Transition) → AreAmong (weak_aborts (own k o)) some → Each (λ t. is_join t.kind ≡ true) joins →
        Watches o (at.Within o (map (λ x. x.1) some ++ joins))
        (at.Trying (i.watching_of o) (raise_each (λ t. t.immediate) (i.flags_of o).weak some ++ monitor_last o))
    -- it has yet to look at strong flags around, before its first weak test
    looks : (yet seen : List ℕ) → around k (holder k o) ≡ reverse yet ++ seen → (first : ℕ × Transition) (some : List (ℕ × Transition))
        (joins : List Transition) → AreAmong (weak_aborts (own k o)) (first ∷ some) → Each (λ t. is_join t.kind ≡ true) joins →
        Watches o (at.Within o (map (λ x. x.1) (first ∷ some) ++ joins))
        (at.Trying (i.watching_of o) (looks_at yet
        ++ (raise_each (λ t. t.immediate) (i.flags_of o).weak (first ∷ some) ++ monitor_last o)))
    elsewhere : (x : Standing) → ((tests : List Transition) → x ≢ at.Guarding o tests) → ((tests : List Transition) → x ≢ at.Within o tests) →
        Watches o x at.Outside

  -- the monitor of superstate o looks at the strong flag of superstate s around it, and at those between, before anything else but some further out;
  -- or it is not there
  pub data LooksFirst (o s : ℕ) : Standing → Type 0 where
    looks_never : LooksFirst o s at.Outside
    looks_first : (yet seen : List ℕ) (rest : List Transition) → around k (holder k o) ≡ reverse yet ++ seen → Contains yet s →
        LooksFirst o s (at.Trying (i.watching_of o) (looks_at yet ++ rest))

  -- ---- flags

  -- how many of these regions have not ended
  abbrev pub still_in : Configuration → List ℕ → ℕ
  still_in c [] = 0
  still_in c (r ∷ rs) = (if has_ended (standing_of c r) then 0 else 1) + still_in c rs

  abbrev pub not_ended : Configuration → ℕ → ℕ
  not_ended c s = still_in c (state_at k s).regions

  abbrev pub Stores : List Value → Option ℕ → ℕ → Type 0
  Stores values None n = Unit {0}
  Stores values (Some x) n = slice_get values x ≡ Some (value_is.Int (pos n))

  -- while a region stands in the superstate, and it was not aborted
  pub data IsInside (s : ℕ) : Standing → Type 0 where
    guarded : (tests : List Transition) → IsInside s (at.Guarding s tests)
    open_inside : (tests : List Transition) → IsInside s (at.Within s tests)

  pub record FlagsAreDown (c : Configuration) (values : List Value) (s : ℕ) : Type 0 where
    pub strong : Stores values (i.flags_of s).strong 0
    pub weak : Stores values (i.flags_of s).weak 0
    pub counter : Stores values (i.flags_of s).counter (not_ended c s)

  -- the tests of an opened superstate end with its termination, which never fails
  pub record Closes (s : ℕ) (tests : List Transition) : Type 0 where
    pub some : List Transition
    pub no_join : Each (λ t. is_join t.kind ≡ false) some
    pub are : tests ≡ some ++ terminations (own k s)

  -- ---- both configurations

  pub record Related (c d : Configuration) : Type 0 where
    pub more : List Value
    pub variables : d.variables ≡ c.variables ++ more
    pub flag_count : length d.variables ≡ length core.variables
    pub chart_regions : length c.regions ≡ suc (length k.regions)
    pub core_regions : length d.regions ≡ suc (length core.regions)
    pub values : length c.variables ≡ length k.variables
    pub no_chart : standing_of c 0 ≡ at.Outside
    pub no_core : standing_of d 0 ≡ at.Outside
    pub regions : (r : ℕ) → IsThere k r → Stands c r (standing_of c r) (standing_of d (thread r))
    pub watchers : (o : ℕ) → IsState k o → has_aborts (own k o) ≡ true → Watches o (standing_of c (holder k o)) (standing_of d (i.watcher_of o))
    pub flags : (s : ℕ) → IsState k s → IsInside s (standing_of c (holder k s)) → FlagsAreDown c d.variables s
    -- who is there is inside of all that is around it
    pub enclosed : (r s : ℕ) → IsThere k r → standing_of c r ≢ at.Outside → Contains (around k r) s → IsInside s (standing_of c (holder k s))
    -- whoever stands in a superstate whose regions are entered has them there
    pub opened : (s r : ℕ) → IsState k s → IsInside s (standing_of c (holder k s)) → Contains (state_at k s).regions r → standing_of c r ≢ at.Outside
    pub closes_last : (s : ℕ) (tests : List Transition) → standing_of c (holder k s) ≡ at.Within s tests → Closes s tests
    pub calm : (q s : ℕ) → IsThere k q → Contains (around k q) s → has_to_guard (standing_of c (holder k s)) ≡ true → IsCalm (standing_of c q)
    pub unseen : (o s : ℕ) → IsState k o → has_aborts (own k o) ≡ true → Contains (around k (holder k o)) s →
        has_to_guard (standing_of c (holder k s)) ≡ true → LooksFirst o s (standing_of d (i.watcher_of o))
