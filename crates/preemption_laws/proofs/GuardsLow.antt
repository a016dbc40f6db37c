-- While a superstate's strong aborts are tested, its holder's line is no higher than the monitor, if nobody beside the monitor is.
use Rattle.std.proofs.Common.{◌≡◌, ◌≢◌, ℕ, zero, suc, ◌≤◌, true, ⊎_elim, Some, List, [], refl, sym, ap, subst, ◌∙◌, arith}
use Rattle.sc_values.specs.Access.{no_access}
use Rattle.sc_graph.specs.declared.control.Control.{Control}
use Rattle.sc_graph.specs.declared.control.Status.TheVariants as status
use Rattle.sc_graph.specs.declared.tables.Tables.{Tables}
use Rattle.sc_graph.specs.Control.{status_of, IsEnabled}
use Rattle.sc_graph.specs.Program.{Program, parent_of}
use Rattle.sc_graph.specs.Tables.{priority_of}
use Rattle.sc_graph.specs.Threads.{Descends, Below}
use Rattle.sc_graph.specs.Tick.{IsConfiguration}
use Rattle.sc_graph.specs.Valid.{IsValid}
use Rattle.tick_laws.proofs.Formed.{valid_formed}
use Rattle.tick_laws.proofs.Lists.{same_or_not}
use Rattle.tick_laws.proofs.Views.{Enabled, enabled_view}
use Rattle.core_charts.specs.declared.features.Features.TheVariants as features
use Rattle.core_charts.specs.declared.region.Transition.{Transition}
use Rattle.core_charts.specs.Chart.{Chart}
use Rattle.core_charts.specs.Rules.{IsChart}
use Rattle.chart_machine.specs.declared.standing.Standing.TheVariants as at
use Rattle.chart_machine.specs.declared.standing.Configuration.{Configuration}
use Rattle.chart_machine.specs.declared.table.Table.{Table}
use Rattle.chart_machine.specs.Table.{table}
use Rattle.chart_machine.specs.Turns.{standing_of, is_enabled}
use Rattle.chart_machine.specs.Steps.{access_of}
use Rattle.scl.specs.declared.program.Scl.{Scl}
use Rattle.scl.specs.Numbering.{numbered}
use Rattle.scl_graph.specs.Graph.{program_of}
use Rattle.abort_expansion.specs.Expansion.{expanded}
use Rattle.chart_lowering_laws.specs.Laws.{IsLowering}
use Rattle.chart_lowering_laws.specs.Stands.{Lowered}
use Rattle.chart_machine_laws.specs.Tree.{IsThere, around, holder}
use Rattle.compiled_charts_laws.proofs.AtJoins as at_joins
use Rattle.compiled_charts_laws.proofs.Stands.{stand_alike}
use Rattle.abort_expansion_laws.specs.CoreRows.{Images, CoreRows}
use Rattle.abort_expansion_laws.proofs.KnownVariables.{present_there}
use Rattle.abort_expansion_laws.proofs.QuietBegins.{state_with_aborts}
use Rattle.abort_expansion_laws.proofs.StrongNotTaken.{IsGuarding as StandsGuarding, guarding_back}
use Rattle.abort_expansion_laws.proofs.TicksOfCharts as ticks
use Rattle.preemption_laws.specs.LowLines.{IsGoing}
use Rattle.preemption_laws.specs.StepNodes.{Alike}
use Rattle.preemption_laws.proofs.CappedSteps.{taker_there}
use Rattle.preemption_laws.proofs.ChartOrder.{AllAt, step_priority}
use Rattle.preemption_laws.proofs.CoreTurns.{taker}
use Rattle.preemption_laws.proofs.LinesAhead.{LowAhead, low_ahead, low_by_itself, goes_on}
use Rattle.preemption_laws.proofs.LowLines.{waits_on, going_present, never_ended}

at_most : (n : ℕ) → n ≤ n
at_most n = omega arith

-- ---- in a graph

module _ (p : Program) (q : Tables) (valid : IsValid p q) (m : Control) (ok : IsConfiguration p m) where
  last_child : (g u h : ℕ) → Descends p (suc g) u h → (child : ℕ) × (parent_of p child ≡ Some h) × Descends p g u child
  last_child zero u h d = (u, d.1 ∙ ap Some d.2, refl)
  last_child (suc g) u h d = let rest = last_child g d.0 h d.2 in (rest.0, rest.1, (d.0, d.1, rest.2))

  -- nobody below the other children of thread h is enabled above its child w
  abbrev pub BesideLow : ℕ → ℕ → Type 0
  BesideLow h w =
      (child u : ℕ) → parent_of p child ≡ Some h → child ≢ w → Below p u child → IsEnabled p m u →
      priority_of q (status_of m u) ≤ priority_of q (status_of m w)

  pub guard_ahead : (h w j : ℕ) → status_of m h ≡ status.Waiting j → parent_of p w ≡ Some h → IsEnabled p m w → BesideLow h w →
      LowAhead p q (priority_of q (status_of m w)) h m
  guard_ahead h w j waits parent on beside =
      low_ahead p q valid m ok (priority_of q (status_of m w)) h (subst IsGoing (sym waits) tt)
      (λ u under on_u. by u under.generations under.descends on_u)
    where
      by : (u g : ℕ) → Descends p g u h → IsEnabled p m u → priority_of q (status_of m u) ≤ priority_of q (status_of m w)
      by u zero same on_u =
          let goes = goes_on p q valid m ok m w (enabled_view p m w on) in
          absurd (waits_on p q valid m ok w h parent (going_present (status_of m w) goes) (never_ended (status_of m w) goes)
          (subst (Enabled p m) same (enabled_view p m u on_u)))
      by u (suc g) d on_u =
          let one = last_child g u h d in
          ⊎_elim
          (λ is_w. low_by_itself p q valid m ok m ok (priority_of q (status_of m w)) w on (at_most (priority_of q (status_of m w))) u
          (record { generations = g; descends = subst (Descends p g u) is_w one.2 }) on_u)
          (λ ne. beside one.0 u one.1 ne (record { generations = g; descends = one.2 }) on_u) (same_or_not one.0 w)

-- ---- in a chart

module _ (c : Chart) (rules : IsChart features.Extended c) (core_rules : IsChart features.Core (expanded c)) (p : Scl) (q : Tables)
    (low : IsLowering (expanded c) p) (valid : IsValid (program_of (numbered p)) q) where
  abbrev k : Table
  k = table c

  abbrev core : Table
  core = table (expanded c)

  abbrev i : Images
  i = ticks.i c rules core_rules

  abbrev rows : CoreRows k core i
  rows = ticks.rows c rules core_rules

  abbrev G : Program
  G = program_of (numbered p)

  lowered : Lowered core G (Alike (expanded c) p)
  lowered = stand_alike (expanded c) p low (valid_formed G q valid)

  module _ (now d : Configuration) (m : Control) (all : AllAt c rules core_rules p q low valid now d m) (alike : Alike (expanded c) p d m) (t o : ℕ)
      (tests : List Transition) (on : is_enabled k now t ≡ true) (guards : standing_of now t ≡ at.Guarding o tests)
      (some : access_of (standing_of now t) ≢ no_access) (beside : BesideLow G q valid m alike.is_configuration (i.thread_of t) (i.watcher_of o)) where
    there : IsThere k t
    there = present_there k core i now d all.related t (λ out. let wrong : at.Outside ≡ at.Guarding o tests = sym out ∙ guards in absurd cc)

    b : StandsGuarding k core i t o (standing_of d (i.thread_of t))
    b = guarding_back k core i now t (standing_of now t) (standing_of d (i.thread_of t)) (all.related.regions t there) o tests guards

    parent : parent_of G (i.watcher_of o) ≡ Some (i.thread_of t)
    parent =
        lowered.parent (i.watcher_of o) (i.main_of o) (around core (i.thread_of (holder k o))) (rows.watcher o (state_with_aborts k o b.has) b.has).encloses
        ∙ (ap Some (rows.held o) ∙ ap (λ h. Some (i.thread_of h)) b.held)

    pub guard_low : LowAhead G q (step_priority c rules core_rules p q low valid now m t) (i.thread_of t) m
    guard_low =
        subst (λ x. LowAhead G q (priority_of q (status_of m (taker c rules core_rules x t))) (i.thread_of t) m) (sym guards)
        (guard_ahead G q valid m alike.is_configuration (i.thread_of t) (i.watcher_of o) (at_joins.join_of (expanded c) p low (i.main_of o)) waits parent
        (subst (λ x. IsEnabled G m (taker c rules core_rules x t)) guards (taker_there c rules core_rules p q low valid now d m all t on some)) beside)
      where
        waits : status_of m (i.thread_of t) ≡ status.Waiting (at_joins.join_of (expanded c) p low (i.main_of o))
        waits = all.waits (i.thread_of t) (i.main_of o) _ [] b.is
