-- Steps of regions, and of their threads.
use Rattle.std.proofs.Common.{◌≡◌, ℕ, zero, suc, ◌<◌, inr, ⊎_elim, Bool, true, false, not, ◌&&◌, ◌||◌, Option, Some, None, List, [], ◌∷◌, length, slice_get}
use Rattle.std.proofs.Common.{unwrap_or, option_map, refl, sym, ap, subst, ◌∙◌, arith}
use Rattle.std.proofs.lemmas.Option.{slice_get_within}
use Rattle.sc_values.specs.declared.expression.Expr.{Expr}
use Rattle.sc_graph.specs.Steps.{changed, only_if}
use Rattle.core_charts.specs.declared.region.Effect.{Effect}
use Rattle.core_charts.specs.declared.region.Transition.{Transition}
use Rattle.chart_machine.specs.declared.standing.Standing.{Standing}
use Rattle.chart_machine.specs.declared.standing.Standing.TheVariants as stand
use Rattle.chart_machine.specs.declared.standing.Configuration.{Configuration}
use Rattle.chart_machine.specs.declared.region_change.RegionChange.{RegionChange}
use Rattle.chart_machine.specs.declared.table.Table.{Table}
use Rattle.chart_machine.specs.Table.{state_at, region_at}
use Rattle.chart_machine.specs.Turns.{standing_of, guards, has_work, is_guarded, inside_is_done, is_enabled}
use Rattle.chart_machine.specs.Steps.{moved, written, taken}
use Rattle.chart_machine.specs.Steps.{after as chart_after, step as chart_step, change_of as region_change}
use Rattle.scl.specs.Block.{Block}
use Rattle.scl.specs.Numbering.{Numbered}
use Rattle.scl.specs.Meaning.{State, Doing, Todo, ThreadChange, doing, after, first_step, change_of, step}
use Rattle.scl.specs.Meaning.{moved as threads_moved}
use Rattle.scl_graph_laws.specs.Alike.{Both}
use Rattle.chart_lowering_laws.specs.Layout.{Layout, IsRegionOf, Lowers}
use Rattle.chart_lowering_laws.specs.Corresponds.{Live, HeldBy, Giving, Nothing, Ready, Turn, Past, given, fresh, first_standing, Fits, Corresponds}
use Rattle.chart_lowering_laws.proofs.Matching.{Comes, SameChange, is_within, test_alike, silent_test, effect_alike}
use Rattle.chart_lowering_laws.proofs.Updating.{After}
use Rattle.chart_lowering_laws.proofs.Stepping.{OneMoved, one_moved, none_moved, thread_within, stepped}

module _ (k : Table) (p : Numbered) (l : Layout) (low : Lowers k p l) where
  -- nothing that was just entered guards anything
  fresh_guards : (r : ℕ) → IsRegionOf k r → guards (fresh k l r) ≡ false
  fresh_guards r there =
      ⊎_elim
      (λ h. ap (λ moves. guards (first_standing moves)) h.entered)
      (⊎_elim (λ h. ap (λ moves. guards (first_standing moves)) h.entered) (λ h. ap (λ moves. guards (first_standing moves)) h.entered))
      (low.states (l.initial r) (low.tree.initials r there).there)

  live_guards : (r : ℕ) (x : Standing) (d : Doing) → Live k p.root l r x d → guards x ≡ false
  live_guards r stand.Outside d live = refl
  live_guards r stand.Ended d live = refl
  live_guards r (stand.Trying u tests) d live = refl
  live_guards r (stand.Entering u tests) d live = absurd live
  live_guards r (stand.Guarding u tests) d live = absurd live
  live_guards r (stand.Acting u effects target) d live = refl
  live_guards r (stand.Within u tests) d live = refl

  fits_guards : (r : ℕ) (g : Giving) (x : Standing) (d : Doing) → IsRegionOf k r → Fits k p.root l r g x d → guards x ≡ false
  fits_guards r Nothing x d there fits = ap guards fits.0
  fits_guards r Ready x d there fits = ap guards fits.0 ∙ fresh_guards r there
  fits_guards r Turn x d there fits = live_guards r x d fits.0
  fits_guards r Past x d there fits = ap guards fits.0

  module _ (c : Configuration) (s : State) (corr : Corresponds k p l c s) where
    -- nobody guards: there are no strong aborts
    no_guard : (r : ℕ) → guards (standing_of c r) ≡ false
    no_guard zero = ap guards corr.chart
    no_guard (suc r) = by (slice_get c.regions (suc r)) refl
      where
        by : (o : Option Standing) → slice_get c.regions (suc r) ≡ o → guards (standing_of c (suc r)) ≡ false
        by None is = ap (λ o. guards (unwrap_or o stand.Outside)) is
        by (Some x) is =
            let less : suc r < length c.regions = slice_get_within c.regions (suc r) x is in
            let same : length c.regions ≡ suc (length k.regions) = corr.regions in
            let there : IsRegionOf k (suc r) = (omega arith, omega (arith, less, same)) in
            fits_guards (suc r) (given k c s (region_at k (suc r)).around) (standing_of c (suc r)) (doing s (suc r)) there (corr.each (suc r) there)

    none_guards : (around : List ℕ) → is_guarded k c around ≡ false
    none_guards [] = refl
    none_guards (u ∷ around) = two (guards (standing_of c (state_at k u).holder)) (is_guarded k c around) (no_guard (state_at k u).holder) (none_guards around)
      where
        two : (a b : Bool) → a ≡ false → b ≡ false → (a || b) ≡ false
        two false false h i = refl
        two false true h i = absurd (cc)
        two true b h i = absurd (cc)

    three : (a b d : Bool) → a ≡ true → b ≡ false → d ≡ true → (a && (not b && d)) ≡ true
    three true false true h i j = refl
    three false b d h i j = absurd (cc)
    three true true d h i j = absurd (cc)
    three true false false h i j = absurd (cc)

    -- a region whose standing has work and is done inside is enabled
    pub enabled_by : (r : ℕ) (x : Standing) → standing_of c r ≡ x → has_work k c x ≡ true → inside_is_done k c x ≡ true → is_enabled k c r ≡ true
    enabled_by r x is work done =
        three (has_work k c (standing_of c r)) (is_guarded k c (region_at k r).around) (inside_is_done k c (standing_of c r))
        (ap (has_work k c) is ∙ work) (none_guards (region_at k r).around) (ap (inside_is_done k c) is ∙ done)

    -- its step
    pub step_is : (r : ℕ) (x : Standing) → standing_of c r ≡ x → has_work k c x ≡ true → inside_is_done k c x ≡ true →
        chart_step k r c ≡ option_map (λ d. chart_after d c) (region_change k c r x)
    step_is r x is work done =
        ap (λ b. only_if b (option_map (λ d. chart_after d c) (region_change k c r (standing_of c r)))) (enabled_by r x is work done)
        ∙ ap (λ y. option_map (λ d. chart_after d c) (region_change k c r y)) is

    both_steps : (r : ℕ) → IsRegionOf k r → given k c s (region_at k r).around ≡ Turn → is_within (standing_of c r) ≡ false →
        (x : Option RegionChange) (y : Option ThreadChange) → Both (SameChange k p.root l c.variables r) x y →
        Both (After k p l c r) (option_map (λ d. chart_after d c) x) (option_map (λ d. after d s) y)
    both_steps r at_r turn closed None None same = tt
    both_steps r at_r turn closed (Some d) None same = absurd same
    both_steps r at_r turn closed None (Some e) same = absurd same
    both_steps r at_r turn closed (Some d) (Some e) same =
        stepped k p l low c s corr r at_r turn closed (written d.write c.variables) d.moves same.doing same.comes (after e s)
        (subst (λ moves. OneMoved s (record { variables = changed e.change s.variables; threads = threads_moved moves s.threads }) r same.doing)
        (sym same.moves)
        (one_moved s (changed e.change s.variables) r same.doing (thread_within k p l low c s corr r (inr at_r))))
        (same.change ∙ ap (changed e.change) corr.variables)

    module _ (r : ℕ) (at_r : IsRegionOf k r) (turn : given k c s (region_at k r).around ≡ Turn) where
      fits : Live k p.root l r (standing_of c r) (doing s r) × HeldBy k p.root l r (standing_of c r)
      fits = subst (λ g. Fits k p.root l r g (standing_of c r) (doing s r)) turn (corr.each r at_r)

      pub live_as : (x : Standing) (d : Doing) → standing_of c r ≡ x → doing s r ≡ d → Live k p.root l r x d × HeldBy k p.root l r x
      live_as x d stands is = subst (λ d. Live k p.root l r x d × HeldBy k p.root l r x) is
          (subst (λ y. Live k p.root l r y (doing s r) × HeldBy k p.root l r y) stands fits)

      pub thread_step : (d : Doing) → doing s r ≡ d → step p r s ≡ option_map (λ e. after e s) (change_of p s r d)
      thread_step d is = ap (λ d. option_map (λ e. after e s) (change_of p s r d)) is

      -- a test with a trigger
      pub tests_alike : (u : ℕ) (t : Transition) (tests : List Transition) (e : Expr) (todo : Block) → standing_of c r ≡ stand.Trying u (t ∷ tests) →
          t.trigger ≡ Some e → doing s r ≡ Todo todo →
          Both (After k p l c r) (chart_step k r c) (step p r s)
      tests_alike u t tests e todo stands trigger is =
          let x : Standing = stand.Trying u (t ∷ tests) in
          let now : Live k p.root l r x (Todo todo) × HeldBy k p.root l r x = live_as x (Todo todo) stands is in
          subst (λ o. Both (After k p l c r) o (step p r s)) (sym (step_is r x stands refl refl))
          (subst (λ o. Both (After k p l c r) (option_map (λ d. chart_after d c) (region_change k c r x)) o) (sym (thread_step (Todo todo) is))
          (both_steps r at_r turn (ap is_within stands) (region_change k c r x) (first_step p s.variables r todo)
          (subst (λ vs. Both (SameChange k p.root l c.variables r) (region_change k c r x) (first_step p vs r todo)) corr.variables
          (test_alike k p l low r u at_r now.1.0 now.1.1 c t tests e todo trigger now.0))))

      -- a test without one
      pub tests_silently : (u : ℕ) (t : Transition) (tests : List Transition) (todo : Block) → standing_of c r ≡ stand.Trying u (t ∷ tests) → t.trigger ≡ None →
          doing s r ≡ Todo todo →
          (d : Configuration) × (chart_step k r c ≡ Some d) × After k p l c r d s
      tests_silently u t tests todo stands trigger is =
          let x : Standing = stand.Trying u (t ∷ tests) in
          let now : Live k p.root l r x (Todo todo) × HeldBy k p.root l r x = live_as x (Todo todo) stands is in
          let test : (region_change k c r x ≡ Some (record { write = None; moves = taken k r u t })) × Comes k p.root l r (taken k r u t) (Todo todo) =
          silent_test k p l low r u at_r now.1.0 now.1.1 c t tests todo trigger now.0 in (
            record { variables = c.variables; regions = moved (taken k r u t) c.regions },
            step_is r x stands refl refl ∙ ap (option_map (λ d. chart_after d c)) test.0,
            stepped k p l low c s corr r at_r turn (ap is_within stands) c.variables (taken k r u t) (doing s r)
                (subst (Comes k p.root l r (taken k r u t)) (sym is) test.1) s (none_moved s r) corr.variables,
          )

      -- an effect
      pub effects_alike : (u place : ℕ) (e : Effect) (effects : List Effect) (todo : Block) → standing_of c r ≡ stand.Acting u (e ∷ effects) place →
          doing s r ≡ Todo todo →
          Both (After k p l c r) (chart_step k r c) (step p r s)
      effects_alike u place e effects todo stands is =
          let x : Standing = stand.Acting u (e ∷ effects) place in
          let now : Live k p.root l r x (Todo todo) × HeldBy k p.root l r x = live_as x (Todo todo) stands is in
          subst (λ o. Both (After k p l c r) o (step p r s)) (sym (step_is r x stands refl refl))
          (subst (λ o. Both (After k p l c r) (option_map (λ d. chart_after d c) (region_change k c r x)) o) (sym (thread_step (Todo todo) is))
          (both_steps r at_r turn (ap is_within stands) (region_change k c r x) (first_step p s.variables r todo)
          (subst (λ vs. Both (SameChange k p.root l c.variables r) (region_change k c r x) (first_step p vs r todo)) corr.variables
          (effect_alike k p l low r u place e effects todo c at_r now.1 now.0))))
