-- Where a tick of a chart and its core chart have ended nobody may leave: all flags that somebody could see are down. So the waiting machine is over.
use Rattle.std.proofs.Common.{◌≡◌, ◌≢◌, ℕ, ⊎_elim, Bool, true, false, ◌||◌, if◌then◌else◌, Some, List, [], ◌∷◌}
use Rattle.std.proofs.Common.{Contains, refl, sym, ap, ap₂, subst, ◌∙◌, arith, unwrap_or, slice_get, pos}
use Rattle.std.specs.List.{list_any}
use Rattle.sc_values.specs.declared.value.Value.TheVariants as value_is
use Rattle.sc_values.specs.Runs.{IsOver}
use Rattle.core_charts.specs.declared.features.Features.TheVariants as features
use Rattle.core_charts.specs.declared.region.Transition.{Transition}
use Rattle.core_charts.specs.Aborts.{has_aborts}
use Rattle.core_charts.specs.Chart.{Chart}
use Rattle.core_charts.specs.Rules.{IsChart}
use Rattle.chart_machine.specs.declared.standing.Standing.{Standing}
use Rattle.chart_machine.specs.declared.standing.Standing.TheVariants as at
use Rattle.chart_machine.specs.declared.standing.Configuration.{Configuration}
use Rattle.chart_machine.specs.declared.table.Table.{Table}
use Rattle.chart_machine.specs.Table.{table}
use Rattle.chart_machine.specs.Turns.{standing_of, is_enabled}
use Rattle.chart_machine.specs.Steps.{verdict}
use Rattle.abort_expansion.specs.Expansion.{expanded}
use Rattle.abort_expansion.specs.Transitions.{is_raised}
use Rattle.chart_machine_laws.specs.Tree.{IsThere, around, holder}
use Rattle.chart_machine_laws.proofs.LyingIn.{head_or_tail}
use Rattle.tick_laws.proofs.Lists.{contains_head, contains_tail, contains_map}
use Rattle.abort_expansion_laws.specs.CoreRows.{own, IsState, Images, CoreRows}
use Rattle.abort_expansion_laws.specs.Related.{IsInside, open_inside, Stores}
use Rattle.abort_expansion_laws.proofs.MoreValues.{lowered_verdict}
use Rattle.abort_expansion_laws.proofs.Owed.{RestsIn, rests_outside, rests_ended, rests_left, rests_trying, rests_staying, rests_within, rests_behind}
use Rattle.abort_expansion_laws.proofs.Owed.{WatchRests, watch_within, watch_elsewhere}
use Rattle.abort_expansion_laws.proofs.RestedCharts.{rested_over}
use Rattle.abort_expansion_laws.proofs.RowsOfCharts as whole
use Rattle.abort_expansion_laws.proofs.TicksOfCharts as ticks
use Rattle.abort_expansion_laws.proofs.NumberedRegions.{is_region}
use Rattle.preemption_laws.specs.Waiting.{holds, is_waiting, waiting_at, still, sees, may_step, waiting_machine}
use Rattle.preemption_laws.proofs.QuietSteps.{looks}
use Rattle.preemption_laws.proofs.StillConfigurations.{stands_still, waits_too}

module _ (c : Chart) (rules : IsChart features.Extended c) (core_rules : IsChart features.Core (expanded c)) where
  abbrev k : Table
  k = table c

  abbrev core : Table
  core = table (expanded c)

  abbrev i : Images
  i = ticks.i c rules core_rules

  abbrev rows : CoreRows k core i
  rows = ticks.rows c rules core_rules

  abbrev looks_here : ℕ → List Transition
  looks_here = looks c rules core_rules

  -- a look at the weak flag of a superstate around
  pub record LooksAround (s : ℕ) (t : Transition) : Type 0 where
    pub superstate : ℕ
    pub flag : ℕ
    pub there : IsState k superstate
    pub weak : (i.flags_of superstate).weak ≡ Some flag
    pub looks_at : t.trigger ≡ Some (is_raised flag)
    pub inside : Contains (around core (holder core s)) (i.main_of superstate)

  -- what more is known of the configurations of the core chart
  pub record KnowsWaiting (Sound : Configuration → Type 0) : Type 0 where
    pub enabled_too : (d : Configuration) (t : ℕ) → Sound d → is_waiting core looks_here (standing_of d t) ≡ false →
        is_enabled core (still core looks_here d) t ≡ is_enabled core d t
    pub held : (d : Configuration) (t s : ℕ) (tests : List Transition) → Sound d → standing_of d t ≡ at.Trying s tests → holder core s ≡ t
    pub seen_weak : (s : ℕ) (t : Transition) → Contains (looks_here s) t → LooksAround s t

  -- ---- who has a look at a flag is inside of its superstate

  module _ (last e : Configuration) (rested : ticks.HasRested c rules core_rules last e) where
    tried_by : (r : ℕ) (x y : Standing) → RestsIn k core i last r x y → (s : ℕ) (tests : List Transition) → y ≡ at.Trying s tests → x ≢ at.Outside
    tried_by r _ _ rests_outside s tests e = absurd cc
    tried_by r _ _ (rests_ended inner) s tests e = absurd cc
    tried_by r _ _ (rests_left u us round over_it) s tests e = absurd cc
    tried_by r _ _ (rests_trying u simple held) s tests e = λ none. absurd cc
    tried_by r _ _ (rests_staying u others super held stay) s tests e = absurd cc
    tried_by r _ _ (rests_within u join others super held apart still_in leads) s tests e = absurd cc
    tried_by r _ _ (rests_behind u others super held over_it) s tests e = λ none. absurd cc

    watched_by : (o : ℕ) (x y : Standing) → WatchRests k core i o x y → (s : ℕ) (tests : List Transition) → y ≡ at.Trying s tests →
        (others : List Transition) × (x ≡ at.Within o others)
    watched_by o _ _ (watch_within others) s tests e = (others, refl)
    watched_by o _ _ (watch_elsewhere x never) s tests e = absurd cc

    of_region : (r u s : ℕ) (tests : List Transition) → IsThere k r → standing_of e (i.thread_of r) ≡ at.Trying s tests →
        Contains (around core (i.thread_of r)) (i.main_of u) → IsInside k core i u (standing_of last (holder k u))
    of_region r u s tests there stands inner =
        let up = contains_map i.main_of (around k r) (i.main_of u) (subst (λ zs. Contains zs (i.main_of u)) (rows.encloses r) inner) in
        let same : up.0 ≡ u = rows.main_once up.0 u up.2 in
        rested.rests.enclosed r u there
        (tried_by r (standing_of last r) (standing_of e (i.thread_of r)) (rested.rests.regions r there) s tests stands)
        (subst (Contains (around k r)) same up.1)

    of_monitor : (o u s : ℕ) (tests : List Transition) → IsState k o → has_aborts (own k o) ≡ true → standing_of e (i.watcher_of o) ≡ at.Trying s tests →
        Contains (around core (i.watcher_of o)) (i.main_of u) → IsInside k core i u (standing_of last (holder k u))
    of_monitor o u s tests here has stands inner =
        ⊎_elim
        (λ first.
        let same : o ≡ u = rows.main_once o u first in
        subst (λ v. IsInside k core i v (standing_of last (holder k v))) same
        (subst (IsInside k core i o) (sym opened.1) (open_inside opened.0)))
        outer (head_or_tail (i.main_of o) (i.main_of u) (around core (i.thread_of (holder k o)))
        (subst (λ zs. Contains zs (i.main_of u)) (rows.watcher o here has).encloses inner))
      where
        opened : (others : List Transition) × (standing_of last (holder k o) ≡ at.Within o others)
        opened =
            watched_by o (standing_of last (holder k o)) (standing_of e (i.watcher_of o)) (rested.rests.watchers o here has) s tests stands

        outer : Contains (around core (i.thread_of (holder k o))) (i.main_of u) → IsInside k core i u (standing_of last (holder k u))
        outer h =
            let up = contains_map i.main_of (around k (holder k o)) (i.main_of u) (subst (λ zs. Contains zs (i.main_of u)) (rows.encloses (holder k o)) h) in
            let same : up.0 ≡ u = rows.main_once up.0 u up.2 in
            rested.rests.enclosed (holder k o) u (whole.state_fits c rules core_rules o here).region.here
            (λ none. let wrong : at.Within o opened.0 ≡ at.Outside = sym opened.1 ∙ none in absurd cc)
            (subst (Contains (around k (holder k o))) same up.1)

    -- who stands somewhere is a thread of the core chart
    core_there : (t : ℕ) → standing_of e t ≢ at.Outside → IsThere core t
    core_there = is_region core e rested.rests.no_core rested.rests.core_regions

    inside_it : (t u s : ℕ) (tests : List Transition) → standing_of e t ≡ at.Trying s tests → Contains (around core t) (i.main_of u) →
        IsInside k core i u (standing_of last (holder k u))
    inside_it t u s tests stands inner =
        ⊎_elim
        (λ thread.
        of_region thread.0 u s tests thread.1 (ap (standing_of e) (sym thread.2) ∙ stands)
        (subst (λ z. Contains (around core z) (i.main_of u)) thread.2 inner))
        (λ monitor.
        of_monitor monitor.0 u s tests monitor.1 monitor.2 (ap (standing_of e) (sym monitor.3) ∙ stands)
        (subst (λ z. Contains (around core z) (i.main_of u)) monitor.3 inner))
        (rows.each t (core_there t (λ none. let wrong : at.Outside ≡ at.Trying s tests = sym none ∙ stands in absurd cc)))

    module _ (Sound : Configuration → Type 0) (knows : KnowsWaiting Sound) (sound : Sound e) where
      -- so its look fails
      look_fails : (t s : ℕ) (tests : List Transition) → standing_of e t ≡ at.Trying s tests → (w : Transition) → Contains (looks_here s) w →
          holds (still core looks_here e) w ≡ false
      look_fails t s tests stands w among =
          ap (λ o. unwrap_or o false) (ap (verdict e.variables) look.looks_at ∙ lowered_verdict look.flag e.variables down)
        where
          look : LooksAround s w
          look = knows.seen_weak s w among

          inner : IsInside k core i look.superstate (standing_of last (holder k look.superstate))
          inner =
              inside_it t look.superstate s tests stands
              (subst (λ z. Contains (around core z) (i.main_of look.superstate)) (knows.held e t s tests sound stands) look.inside)

          down : slice_get e.variables look.flag ≡ Some (value_is.Int (pos 0))
          down = subst (λ f. Stores k core i e.variables f 0) look.weak (rested.rests.flags look.superstate look.there inner).weak

      none_seen : (t s : ℕ) (tests : List Transition) → standing_of e t ≡ at.Trying s tests → (some : List Transition) →
          ((w : Transition) → Contains some w → Contains (looks_here s) w) → list_any (holds (still core looks_here e)) some ≡ false
      none_seen t s tests stands [] among = refl
      none_seen t s tests stands (w ∷ some) among =
          ap₂ (λ a b. a || b) (look_fails t s tests stands w (among w (contains_head w some)))
          (none_seen t s tests stands some (λ u h. among u (contains_tail w u some h)))

      sees_nothing : (t : ℕ) (x : Standing) → standing_of e t ≡ x → sees core looks_here (still core looks_here e) (waiting_at core looks_here x) ≡ false
      sees_nothing t at.Outside stands = refl
      sees_nothing t at.Ended stands = refl
      sees_nothing t (at.Entering s tests) stands = refl
      sees_nothing t (at.Guarding s tests) stands = refl
      sees_nothing t (at.Within s tests) stands = refl
      sees_nothing t (at.Acting s effects p) stands = refl
      sees_nothing t (at.Trying s tests) stands = none_seen t s tests stands (looks_here s) (λ w h. h)

      pub waits_over : IsOver (waiting_machine core looks_here) (still core looks_here e)
      waits_over t = by (is_waiting core looks_here (standing_of (still core looks_here e) t)) refl
        where
          here : standing_of (still core looks_here e) t ≡ waiting_at core looks_here (standing_of e t)
          here = stands_still core looks_here e t

          by : (b : Bool) → is_waiting core looks_here (standing_of (still core looks_here e) t) ≡ b →
              may_step core looks_here (still core looks_here e) t ≡ false
          by true waits =
              ap (λ b. if b then sees core looks_here (still core looks_here e) (standing_of (still core looks_here e) t) else is_enabled core
              (still core looks_here e) t) waits
              ∙ (ap (sees core looks_here (still core looks_here e)) here ∙ sees_nothing t (standing_of e t) refl)
          by false goes =
              ap (λ b. if b then sees core looks_here (still core looks_here e) (standing_of (still core looks_here e) t) else is_enabled core
              (still core looks_here e) t) goes
              ∙ (knows.enabled_too e t sound (sym (waits_too core looks_here (standing_of e t)) ∙ (sym (ap (is_waiting core looks_here) here) ∙ goes))
              ∙ rested_over c rules core_rules last e rested.rests rested.over t)
