-- What the first tick enters waits as it should, and the chart stands as it should.
use Rattle.std.proofs.Common.{◌≡◌, ◌≢◌, ℕ, Bool, true, false, Some, List, [], ◌∷◌, ◌++◌, map}
use Rattle.std.proofs.Common.{Contains, refl, sym, ap, subst, ◌∙◌, arith, ⊎_elim, inr}
use Rattle.std.specs.Prelude.{filter}
use Rattle.std.proofs.lemmas.List.{length-map, map-append}
use Rattle.sc_values.specs.declared.value.Value.{Value}
use Rattle.sc_values.specs.Operator.{initial_value}
use Rattle.sc_graph.specs.declared.program.Variable.{Variable}
use Rattle.sc_graph.specs.Tick.{Inputs, values_at_start}
use Rattle.core_charts.specs.declared.region.Transition.{Transition}
use Rattle.core_charts.specs.declared.region.TransitionKind.{TransitionKind}
use Rattle.core_charts.specs.declared.region.TransitionKind.TheVariants as kind
use Rattle.core_charts.specs.Tests.{at_once, weak_aborts, is_weak, is_join, first_closing_tests}
use Rattle.chart_machine.specs.declared.standing.Standing.{Standing}
use Rattle.chart_machine.specs.declared.standing.Standing.TheVariants as at
use Rattle.chart_machine.specs.declared.standing.Configuration.{Configuration}
use Rattle.chart_machine.specs.declared.table.Table.{Table}
use Rattle.chart_machine.specs.Table.{state_at}
use Rattle.chart_machine.specs.Turns.{standing_of, guards as has_to_guard, inside}
use Rattle.chart_machine.specs.Machine.{initial, start}
use Rattle.abort_expansion.specs.Flags.{has_join}
use Rattle.abort_expansion.specs.Superstates.{is_prepared}
use Rattle.chart_machine_laws.specs.Tree.{IsThere, around, holder}
use Rattle.chart_machine_laws.proofs.LyingIn.{head_in}
use Rattle.chart_machine_laws.proofs.ChartTables.{around_there}
use Rattle.abort_expansion_laws.specs.CoreRows.{own, IsState, IsSuper, Images, flags_around}
use Rattle.abort_expansion_laws.specs.Related.{Each, IsInside, Closes, IsCalm, calm_outside, LooksFirst}
use Rattle.abort_expansion_laws.proofs.StartingRegions.{Once}
use Rattle.abort_expansion_laws.proofs.WokenConfigurations.{IsLocal, variables_started, each_kept}
use Rattle.abort_expansion_laws.proofs.Pending.{Sound, Pending}
use Rattle.abort_expansion_laws.proofs.EnteredAlike.{AreEntered}
use Rattle.abort_expansion_laws.proofs.InitialPairs.{chart_begins}
use Rattle.abort_expansion_laws.proofs.JustEntered.{EntryRows, Reach}
use Rattle.abort_expansion_laws.proofs.ChartEntered.{stood_of, ChartReach, stood_present}
use Rattle.abort_expansion_laws.proofs.ChartEntered.{reached_open, reached_inside, reached_guards}
use Rattle.abort_expansion_laws.proofs.EnteredWaits.{entered_waits}
use Rattle.abort_expansion_laws.proofs.EnteredMonitors.{Unflagged, entered_watched, entered_flags}
use Rattle.abort_expansion_laws.proofs.EnteredReady.{opened_later, over_now}
use Rattle.abort_expansion_laws.proofs.FirstTick.{first_size, values_size, chart_reached, reached, no_region, no_thread, present_there, all_enclosed}
use Rattle.abort_expansion_laws.proofs.StandsInside.{inside_present}
use Rattle.abort_expansion_laws.proofs.LooksFirst.{out_looks, watch_gone}
use Rattle.core_charts.specs.Aborts.{has_aborts}

-- ---- of tests

kept_each : (P Q : Transition → Bool) (ts : List Transition) → Each (λ t. P t ≡ true) ts → Each (λ t. P t ≡ true) (filter Q ts)
kept_each P Q [] h = tt
kept_each P Q (t ∷ ts) h = by_own (Q t) refl (kept_each P Q ts h.1)
  where
    by_own : (b : Bool) → Q t ≡ b → Each (λ t. P t ≡ true) (filter Q ts) → Each (λ t. P t ≡ true) (filter Q (t ∷ ts))
    by_own true is rest = rw (is) (h.0, rest)
    by_own false is rest = rw (is) rest

no_joins : (ts : List Transition) → Each (λ t. is_weak t.kind ≡ true) ts → Each (λ t. is_join t.kind ≡ false) ts
no_joins [] h = tt
no_joins (t ∷ ts) h = (weak_only t.kind h.0, no_joins ts h.1)
  where
    weak_only : (k : TransitionKind) → is_weak k ≡ true → is_join k ≡ false
    weak_only kind.Go e = refl
    weak_only kind.Strong e = refl
    weak_only kind.Weak e = refl
    weak_only kind.Join e = absurd cc

-- the tests of entry end with the termination
pub closes_first : (k core : Table) (i : Images) (s : ℕ) (tests : List Transition) → tests ≡ first_closing_tests (own k s) → Closes k core i s tests
closes_first k core i s tests are =
    record {
      some = at_once (weak_aborts (own k s));
      no_join =
          no_joins (at_once (weak_aborts (own k s)))
          (kept_each (λ t. is_weak t.kind) (λ t. t.immediate) (weak_aborts (own k s)) (each_kept (λ t. is_weak t.kind) (own k s)));
      are = are;
    }

module _ (k core : Table) (i : Images) (more : EntryRows k core i)
    (alone : (v : ℕ) → (state_at core v).regions ≡ [] → inside core v ≡ [])
    (counter_joins : (s x : ℕ) → (i.flags_of s).counter ≡ Some x → has_join (own k s) ≡ true)
    (unflagged : (u : ℕ) → IsSuper k u → is_prepared (flags_around k core i (holder k u)) (own k u) ≡ false → Unflagged k core i u)
    (holds_there : (s : ℕ) → IsState k s → IsThere k (holder k s)) (locals : Each IsLocal more.rows.added)
    (tops : List ℕ) (top_there : (r : ℕ) → Contains tops r → IsThere k r × (around k r ≡ [])) (once_top : (r : ℕ) → Contains tops r → Once r tops)
    (alike_top : AreEntered k core i tops k.opened core.opened) (inputs : Inputs) where
  abbrev at_first : Configuration
  at_first = start k inputs (initial k)

  abbrev core_at_first : Configuration
  core_at_first = start core inputs (initial core)

  abbrev f : ℕ → Standing
  f = standing_of at_first

  chart_is : (q : ℕ) → IsThere k q → ChartReach k core i more f q
  chart_is q there = chart_reached k core i more holds_there tops top_there once_top alike_top inputs q there

  both_are : (q : ℕ) → IsThere k q → Reach k core i more at_first core_at_first q
  both_are q there = reached k core i more holds_there tops top_there once_top alike_top inputs q there

  is_there : (r : ℕ) → standing_of at_first r ≢ at.Outside → IsThere k r
  is_there r present = present_there k core i more holds_there tops top_there once_top alike_top inputs r present

  -- ---- of the chart alone

  all_opened : (s r : ℕ) → IsState k s → IsInside k core i s (standing_of at_first (holder k s)) → Contains (state_at k s).regions r →
      standing_of at_first r ≢ at.Outside
  all_opened s r here inner child =
      let holder_is = is_there (holder k s) (inside_present k core i s (standing_of at_first (holder k s)) inner) in
      let opened = reached_inside k core i more f (holder k s) s (standing_of at_first (holder k s)) refl inner (chart_is (holder k s) holder_is) in
      let fresh = (reached_open k core i more f (holder k s) s opened.0 opened.1 (chart_is (holder k s) holder_is)).1 in
      let direct = more.tree.children s r child in
      let there = around_there k r s (subst (λ zs. Contains zs s) (sym direct) (head_in s (around k (holder k s)))) in
      let super : IsSuper k s = (more.super_around r s (subst (λ zs. Contains zs s) (sym direct) (head_in s (around k (holder k s))))).1 in
      let b = chart_begins k core i more.rows more.tree more.core_tree more.entries more.elsewhere f s (more.alike s here super) fresh r child
      (more.once r s (around k (holder k s)) there direct) in
      subst (λ q. standing_of at_first q ≢ at.Outside) b.held
      (stood_present k core i more f (holder k b.first) (stood_of k core i more f b.first b.here b.begins))

  all_close : (s : ℕ) (tests : List Transition) → standing_of at_first (holder k s) ≡ at.Within s tests → Closes k core i s tests
  all_close s tests is =
      let there = is_there (holder k s) (λ out. let wrong : at.Within s tests ≡ at.Outside = sym is ∙ out in absurd cc) in
      closes_first k core i s tests (reached_open k core i more f (holder k s) s tests is (chart_is (holder k s) there)).0

  all_calm : (q s : ℕ) → IsThere k q → Contains (around k q) s → has_to_guard (standing_of at_first (holder k s)) ≡ true →
      IsCalm (standing_of at_first q)
  all_calm q s there inner guards =
      let holder_is = is_there (holder k s) (λ out. let wrong : true ≡ false = sym guards ∙ ap has_to_guard out in absurd cc) in
      subst IsCalm (sym (reached_guards k core i more f (holder k s) guards (chart_is (holder k s) holder_is) q s inner refl)) calm_outside

  pub first_sound : Sound k core i at_first
  first_sound =
      record {
        chart_regions = first_size k inputs;
        values = values_size k inputs;
        no_chart = no_region k core i more holds_there tops top_there once_top alike_top inputs;
        enclosed = λ r s there present inner.
            all_enclosed k core i more holds_there tops top_there once_top alike_top inputs r s there present inner;
        opened = all_opened;
        closes_last = all_close;
        calm = all_calm;
      }

  -- ---- in the core

  abbrev first_values : List Variable → List Value
  first_values xs = map (λ x. initial_value x.kind) xs

  variables_are : core_at_first.variables ≡ at_first.variables ++ first_values more.rows.added
  variables_are =
      ap (λ xs. values_at_start inputs xs (first_values xs)) more.rows.variables ∙
      (ap (values_at_start inputs (k.variables ++ more.rows.added)) (map-append (λ x. initial_value x.kind) k.variables more.rows.added) ∙
      variables_started inputs k.variables more.rows.added (first_values k.variables) (first_values more.rows.added)
      (length-map k.variables (λ x. initial_value x.kind)) (length-map more.rows.added (λ x. initial_value x.kind)) locals)

  -- nobody is inside of what guards
  first_unseen : (o s : ℕ) → IsState k o → has_aborts (own k o) ≡ true → Contains (around k (holder k o)) s →
      has_to_guard (standing_of at_first (holder k s)) ≡ true → LooksFirst k core i o s (standing_of core_at_first (i.watcher_of o))
  first_unseen o s here has inner guards =
      let holder_is = is_there (holder k s) (λ out. let wrong : true ≡ false = sym guards ∙ ap has_to_guard out in absurd cc) in
      let gone : standing_of at_first (holder k o) ≡ at.Outside =
      reached_guards k core i more f (holder k s) guards (chart_is (holder k s) holder_is) (holder k o) s inner refl in
      out_looks k core i o (standing_of core_at_first (i.watcher_of o))
      (⊎_elim (λ w. watch_gone k core i o (standing_of at_first (holder k o)) (standing_of core_at_first (i.watcher_of o)) w (inr gone)) (λ hides. hides.0)
      (entered_watched k core i more at_first core_at_first o here has (both_are (holder k o) (holds_there o here))))

  pub first_pending : Pending k core i at_first 0 core_at_first
  first_pending =
      record {
        more = first_values more.rows.added;
        variables = variables_are;
        flag_count = values_size core inputs;
        core_regions = first_size core inputs;
        no_core = no_thread k core i more holds_there tops top_there once_top alike_top inputs;
        waits = λ r there. entered_waits k core i more at_first core_at_first alone r (both_are r there);
        done = λ r there lt. absurd (omega (lt, arith));
        watchers = λ o here has.
            entered_watched k core i more at_first core_at_first o here has (both_are (holder k o) (holds_there o here));
        unseen = first_unseen;
        flags = λ s here inner.
            entered_flags k core i more at_first core_at_first unflagged s (standing_of at_first (holder k s)) refl inner
            (both_are (holder k s) (holds_there s here));
        late = λ s o. omega arith;
        joinable = λ s o.
            over_now k core i more at_first core_at_first counter_joins s o (both_are (holder k s) (holds_there s o.there)) (λ q there inner. both_are q there);
        ready = λ s o.
            opened_later k core i more at_first core_at_first (first_size k inputs) s o (both_are (holder k s) (holds_there s o.there));
      }
