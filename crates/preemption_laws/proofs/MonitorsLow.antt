-- While a monitor has strong aborts to test, its superstate's holder comes to no greater priority than the monitor, for nobody beside it does.
use Rattle.std.proofs.Common.{◌≡◌, ◌≢◌, ℕ, suc, ◌<◌, ◌≤◌, true, false, not, ◌&&◌, ⊎_elim, Option, Some, None, List, [], ◌∷◌, ◌++◌, map, pos, refl, sym, ap}
use Rattle.std.proofs.Common.{subst, ◌∙◌, arith}
use Rattle.std.proofs.lemmas.Bool.{and_parts, not-true}
use Rattle.sc_values.specs.Access.{no_access}
use Rattle.sc_values.specs.declared.expression.Expr.{Expr}
use Rattle.sc_values.specs.declared.value.Value.TheVariants as value_is
use Rattle.sc_graph.specs.declared.control.Control.{Control}
use Rattle.sc_graph.specs.declared.program.Step.TheVariants as node_step
use Rattle.sc_graph.specs.declared.tables.Tables.{Tables}
use Rattle.sc_graph.specs.Control.{status_of}
use Rattle.sc_graph.specs.Program.{Program, parent_of}
use Rattle.sc_graph.specs.Tables.{priority, priority_of}
use Rattle.sc_graph.specs.Threads.{Below}
use Rattle.sc_graph.specs.Valid.{IsValid}
use Rattle.tick_laws.proofs.Formed.{valid_formed}
use Rattle.tick_laws.proofs.Falling.{StandsAt}
use Rattle.tick_laws.proofs.Views.{Enabled, enabled_view}
use Rattle.core_charts.specs.declared.features.Features.TheVariants as features
use Rattle.core_charts.specs.declared.region.Transition.{Transition}
use Rattle.core_charts.specs.Aborts.{has_aborts}
use Rattle.core_charts.specs.Chart.{Chart}
use Rattle.core_charts.specs.Rules.{IsChart}
use Rattle.core_charts.specs.Tests.{weak_aborts}
use Rattle.chart_machine.specs.declared.standing.Standing.{Standing}
use Rattle.chart_machine.specs.declared.standing.Standing.TheVariants as at
use Rattle.chart_machine.specs.declared.standing.Configuration.{Configuration}
use Rattle.chart_machine.specs.declared.table.Table.{Table}
use Rattle.chart_machine.specs.Table.{table}
use Rattle.chart_machine.specs.Turns.{standing_of, has_work, is_guarded, inside_is_done, is_enabled}
use Rattle.chart_machine.specs.Steps.{step, access_of, access_of_trigger}
use Rattle.scl.specs.declared.program.Scl.{Scl}
use Rattle.scl.specs.Numbering.{numbered}
use Rattle.scl_graph.specs.Graph.{program_of}
use Rattle.abort_expansion.specs.Expansion.{expanded}
use Rattle.abort_expansion.specs.Transitions.{put, raising}
use Rattle.chart_lowering_laws.specs.Laws.{IsLowering}
use Rattle.chart_lowering_laws.specs.Stands.{Lowered}
use Rattle.chart_machine_laws.proofs.LyingIn.{IsNested, around, holder}
use Rattle.chart_machine_laws.specs.Tree.{IsThere}
use Rattle.compiled_charts_laws.proofs.LateTests.{is_late}
use Rattle.compiled_charts_laws.proofs.Stands.{stand_alike}
use Rattle.abort_expansion_laws.specs.CoreRows.{own, IsState, Images, CoreRows}
use Rattle.abort_expansion_laws.specs.Related.{monitor_last}
use Rattle.abort_expansion_laws.specs.Related.{raises, raise_each}
use Rattle.abort_expansion_laws.proofs.ChecksUpTo.{strong_around}
use Rattle.abort_expansion_laws.proofs.FlagAccess.{put_access}
use Rattle.abort_expansion_laws.proofs.HasLooked.{looked_strong}
use Rattle.abort_expansion_laws.proofs.KnownVariables.{present_there}
use Rattle.abort_expansion_laws.proofs.QuietBegins.{LoweredTests, IsRaising, StaysLow, state_with_aborts}
use Rattle.abort_expansion_laws.proofs.RowsOfCharts as whole
use Rattle.abort_expansion_laws.proofs.StrongNotTaken.{IsGuarding as StandsGuarding, guarding_back, MonitorGuards}
use Rattle.abort_expansion_laws.proofs.StrongTestsQuiet.{SoonLow, soon_low, soon_resumed, soon_tested}
use Rattle.abort_expansion_laws.proofs.TicksOfCharts as ticks
use Rattle.preemption_laws.specs.StepNodes.{Alike}
use Rattle.preemption_laws.proofs.CappedSteps.{IsGuarding}
use Rattle.preemption_laws.proofs.ChartOrder.{AllAt, step_priority}
use Rattle.preemption_laws.proofs.GuardsLow.{BesideLow, guard_low}
use Rattle.preemption_laws.proofs.LinesAhead.{LowAhead}
use Rattle.preemption_laws.proofs.RaiseNodes.{LeadsToEffect, taken_lower}
use Rattle.preemption_laws.proofs.ChecksBeside.{test_below}
use Rattle.preemption_laws.proofs.EnabledNodes.{at_priority, at_test, no_resume}

less_then : (a b c : ℕ) → a < b → b ≤ c → a ≤ c
less_then a b c lt le = omega (lt, le, arith)

module _ (c : Chart) (rules : IsChart features.Extended c) (core_rules : IsChart features.Core (expanded c)) (p : Scl) (q : Tables)
    (low : IsLowering (expanded c) p) (valid : IsValid (program_of (numbered p)) q) where
  abbrev k : Table
  k = table c

  abbrev core : Table
  core = table (expanded c)

  abbrev i : Images
  i = ticks.i c rules core_rules

  abbrev rows : CoreRows k core i
  rows = ticks.rows c rules core_rules

  abbrev tree : IsNested core
  tree = (whole.core_tree c rules core_rules).nested

  abbrev G : Program
  G = program_of (numbered p)

  abbrev pub lowered : Lowered core G (Alike (expanded c) p)
  lowered = stand_alike (expanded c) p low (valid_formed G q valid)

  module _ (lowered_tests : LoweredTests core G (Alike (expanded c) p) lowered)
      (earlier : (d next : Configuration) (t g : ℕ) → step core t d ≡ Some next → is_late (standing_of next g) ≡ true →
      is_late (standing_of d g) ≡ true) where
    abbrev pub Raises : ℕ → ℕ → Type 0
    Raises = IsRaising k core i rows tree G q valid (Alike (expanded c) p) lowered lowered_tests earlier

    abbrev pub Stays : ℕ → ℕ → Control → Type 0
    Stays = StaysLow k core i rows tree G q valid (Alike (expanded c) p) lowered lowered_tests earlier

    -- what is beside a monitor that has a delayed test to make stays below the nodes at which it raises the strong flag
    abbrev pub MonitorsQuiet : Configuration → Control → Type 0
    MonitorsQuiet d m =
        (o : ℕ) → IsState k o → has_aborts (own k o) ≡ true → is_late (standing_of d (i.watcher_of o)) ≡ true → (n : ℕ) → Raises o n → Stays o n m

    module _ (now d : Configuration) (m : Control) (all : AllAt c rules core_rules p q low valid now d m) (alike : Alike (expanded c) p d m)
        (quiet : MonitorsQuiet d m) (t : ℕ) (on : is_enabled k now t ≡ true)
      where
        module _ (o : ℕ) (test : Transition) (tests : List Transition) (e : Expr) (guards : standing_of now t ≡ at.Guarding o (test ∷ tests))
            (triggered : test.trigger ≡ Some e) where
          there : IsThere k t
          there =
              present_there k core i now d all.related t
              (λ out. let wrong : at.Outside ≡ at.Guarding o (test ∷ tests) = sym out ∙ guards in absurd cc)

          b : StandsGuarding k core i t o (standing_of d (i.thread_of t))
          b = guarding_back k core i now t (standing_of now t) (standing_of d (i.thread_of t)) (all.related.regions t there) o (test ∷ tests) guards

          o_there : IsState k o
          o_there = state_with_aborts k o b.has

          both : (has_work k now (standing_of now t) ≡ true)
              × ((not (is_guarded k now (around k t)) && inside_is_done k now (standing_of now t)) ≡ true)
          both = and_parts (has_work k now (standing_of now t)) (not (is_guarded k now (around k t)) && inside_is_done k now (standing_of now t)) on

          free : is_guarded k now (around k t) ≡ false
          free = not-true (is_guarded k now (around k t)) (and_parts (not (is_guarded k now (around k t))) (inside_is_done k now (standing_of now t)) both.1).0

          monitor : MonitorGuards k core i o test tests (standing_of d (i.watcher_of o))
          monitor =
              looked_strong k core i o (standing_of now (holder k o)) (standing_of d (i.watcher_of o))
              ((all.ready o).looked o_there b.has (subst (λ p. is_guarded k now (around k p) ≡ false) (sym b.held) free)) test
              tests (ap (standing_of now) b.held ∙ guards)

          flag : (x : ℕ) × ((i.flags_of o).strong ≡ Some x)
          flag = rows.strong_there o monitor.number test o_there monitor.first

          abbrev first_test : Transition
          first_test = raises (λ z. false) flag.0 (monitor.number, test)

          abbrev other_tests : List Transition
          other_tests =
              map (raises (λ z. false) flag.0) monitor.others
              ++ (raising (λ z. z.immediate) 1 (i.flags_of o).weak 1 (weak_aborts (own k o)) ++ monitor_last k core i o)

          core_stands : standing_of d (i.watcher_of o) ≡ at.Trying (i.watching_of o) (first_test ∷ other_tests)
          core_stands =
              monitor.is
              ∙ ap (λ f. at.Trying (i.watching_of o) (raise_each (λ z. false) f ((monitor.number, test) ∷ monitor.others)
              ++ (raising (λ z. z.immediate) 1 (i.flags_of o).weak 1 (weak_aborts (own k o)) ++ monitor_last k core i o))) flag.1

          raise : LeadsToEffect G m (i.watcher_of o) (put flag.0 (suc monitor.number))
          raise =
              all.firsts (i.watcher_of o) (i.watching_of o) first_test other_tests e (put flag.0 (suc monitor.number)) [] core_stands triggered refl

          raises_it : Raises o raise.taken
          raises_it =
              record {
                owned = raise.owned;
                flag = flag.0;
                is_flag = flag.1;
                inits = (
                  Some (value_is.Int (pos (suc monitor.number))),
                  ap (λ z. z.writes) (raise.does ∙ put_access flag.0 (suc monitor.number)),
                );
              }

          stays : Stays o raise.taken m
          stays = quiet o o_there b.has (ap is_late core_stands) raise.taken raises_it

          abbrev IsLower : ℕ → Type 0
          IsLower u = priority_of q (status_of m u) < priority q raise.taken

          -- who is below the node soon is so, since nobody resumes, and whoever is at a test is at its check of the flag
          by_soon : (child u : ℕ) → parent_of G child ≡ Some (i.thread_of (holder k o)) → child ≢ i.watcher_of o → Below G u child → Enabled G m u →
              (many n : ℕ) → SoonLow G q (priority q raise.taken) many n → StandsAt (status_of m u) n → IsLower u
          by_soon child u up ne under on_u _ _ (soon_low many n lt) there =
              subst (λ z. z < priority q raise.taken) (sym (at_priority q (status_of m u) n there)) lt
          by_soon child u up ne under on_u _ _ (soon_resumed many n to found soon) there =
              absurd (no_resume G (valid_formed G q valid) m u n to (all.resumed u) on_u there found)
          by_soon child u up ne under on_u _ _ (soon_tested many n on_true on_false code found first second) there =
              subst (λ z. z < priority q raise.taken) (sym (at_priority q (status_of m u) n there))
              (test_below c rules core_rules p q low valid now d m all alike o raises_it.flag raise.taken o_there b.has (test ∷ tests)
              (ap (standing_of now) b.held ∙ guards) (subst (λ r. is_guarded k now (around k r) ≡ false) (sym b.held) free) raises_it.is_flag
              raise.owned raises_it.inits
              u child up ne under n
              (at_test G (valid_formed G q valid) m u n (node_step.Cond code on_true on_false) tt on_u there found)
              (node_step.Cond code on_true on_false) tt found)

          beside : BesideLow G q valid m alike.is_configuration (i.thread_of t) (i.watcher_of o)
          beside child u parent ne under on_u =
              less_then (priority_of q (status_of m u)) (priority q raise.taken) (priority_of q (status_of m (i.watcher_of o)))
              (⊎_elim (λ lower. lower) (λ soon. by_soon child u up ne under (enabled_view G m u on_u) (strong_around k o) soon.0 soon.2 soon.1)
              (stays.low u (child, (up, ne), under) (enabled_view G m u on_u)))
              (taken_lower G q valid m (i.watcher_of o) (put flag.0 (suc monitor.number)) raise)
            where
              up : parent_of G child ≡ Some (i.thread_of (holder k o))
              up = parent ∙ ap (λ h. Some (i.thread_of h)) (sym b.held)

          guarding_low : access_of (standing_of now t) ≢ no_access → LowAhead G q (step_priority c rules core_rules p q low valid now m t) (i.thread_of t) m
          guarding_low some = guard_low c rules core_rules p q low valid now d m all alike t o (test ∷ tests) on guards some beside

        -- so the lines of regions that guard are as low as their monitors
        pub guards_low : IsGuarding (standing_of now t) → access_of (standing_of now t) ≢ no_access →
            LowAhead G q (step_priority c rules core_rules p q low valid now m t) (i.thread_of t) m
        guards_low guarding some = by (standing_of now t) refl guarding
          where
            none : (x : Standing) → standing_of now t ≡ x → access_of x ≡ no_access → ⊥
            none x is idle = some (ap access_of is ∙ idle)

            by_trigger : (o : ℕ) (test : Transition) (tests : List Transition) (trigger : Option Expr) → test.trigger ≡ trigger →
                standing_of now t ≡ at.Guarding o (test ∷ tests) →
                LowAhead G q (step_priority c rules core_rules p q low valid now m t) (i.thread_of t) m
            by_trigger o test tests None untriggered is = absurd (none (at.Guarding o (test ∷ tests)) is (ap access_of_trigger untriggered))
            by_trigger o test tests (Some e) triggered is = guarding_low o test tests e is triggered some

            by : (x : Standing) → standing_of now t ≡ x → IsGuarding x →
                LowAhead G q (step_priority c rules core_rules p q low valid now m t) (i.thread_of t) m
            by (at.Guarding o []) is h = absurd (none (at.Guarding o []) is refl)
            by (at.Guarding o (test ∷ tests)) is h = by_trigger o test tests test.trigger refl is
            by (at.Within s tests) is h = absurd h
            by at.Outside is h = absurd h
            by at.Ended is h = absurd h
            by (at.Trying s tests) is h = absurd h
            by (at.Entering s tests) is h = absurd h
            by (at.Acting s effects place) is h = absurd h
