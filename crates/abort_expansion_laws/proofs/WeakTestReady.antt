-- When a weak test is next in the chart, it comes to be so at the monitor: if that has yet to look at the strong flags around, it looks.
use Rattle.std.proofs.Common.{◌≡◌, ℕ, true, false, Some, List, [], ◌∷◌, Contains, sym, ap, subst, ◌∙◌}
use Rattle.std.proofs.lemmas.Bool.{or_right}
use Rattle.sc_values.specs.Runs.{act_of}
use Rattle.core_charts.specs.declared.features.Features.TheVariants as features
use Rattle.core_charts.specs.declared.region.Transition.{Transition}
use Rattle.core_charts.specs.Chart.{Chart}
use Rattle.core_charts.specs.Rules.{IsChart}
use Rattle.core_charts.specs.Tests.{is_weak, is_join}
use Rattle.core_charts.specs.Aborts.{has_strong, has_weak, has_aborts}
use Rattle.chart_machine.specs.declared.standing.Standing.TheVariants as at
use Rattle.chart_machine.specs.declared.standing.Configuration.{Configuration}
use Rattle.chart_machine.specs.declared.table.Table.{Table}
use Rattle.chart_machine.specs.Table.{table}
use Rattle.chart_machine.specs.Turns.{standing_of, is_guarded}
use Rattle.chart_machine.specs.Steps.{step}
use Rattle.chart_machine.specs.Machine.{machine}
use Rattle.abort_expansion.specs.Expansion.{expanded}
use Rattle.abort_expansion_laws.specs.Stages.{Entry}
use Rattle.chart_machine_laws.specs.Tree.{around, holder}
use Rattle.abort_expansion_laws.specs.CoreRows.{own, IsState, Images}
use Rattle.abort_expansion_laws.specs.Related.{Related}
use Rattle.abort_expansion_laws.proofs.StageReached.{Stage}
use Rattle.abort_expansion_laws.proofs.KnownVariables.{Stepped}
use Rattle.abort_expansion_laws.proofs.LaterTicks.{weak_no_join}
use Rattle.abort_expansion_laws.proofs.HasLooked.{looked_weak}
use Rattle.abort_expansion_laws.proofs.LooksBefore.{looked_first}
use Rattle.abort_expansion_laws.proofs.MoreRows.{opening_rows}
use Rattle.abort_expansion_laws.proofs.OwnTests.{OwnTests}
use Rattle.abort_expansion_laws.proofs.QuietBegins.{state_with_aborts}
use Rattle.abort_expansion_laws.proofs.RowsOfCharts as whole
use Rattle.abort_expansion_laws.proofs.TicksOfCharts as ticks
use Rattle.abort_expansion_laws.proofs.ToldSteps.{told_silent, ToldHere}
use Rattle.abort_expansion_laws.proofs.WeakNotTaken.{within_back, MonitorWaits}
use Rattle.abort_expansion_laws.proofs.CasesFollowed as cases
use Rattle.abort_expansion_laws.proofs.FlagStages.{FlagStages}

module _ (c : Chart) (rules : IsChart features.Extended c) (core_rules : IsChart features.Core (expanded c)) (stages : FlagStages c rules core_rules)
  where
    abbrev k : Table
    k = table c

    abbrev core : Table
    core = table (expanded c)

    abbrev i : Images
    i = whole.i c rules core_rules

    abbrev Told : Configuration → Entry → Type 0
    Told = ToldHere c rules core_rules

    abbrev Followed : (now d : Configuration) (r : ℕ) (next : Configuration) → Type 0
    Followed = cases.Followed c rules core_rules stages

    module _ (now d : Configuration) (related : Related k core i now d) (owns : OwnTests k now) (r : ℕ) (next : Configuration)
        (goes : step k r now ≡ Some next) (o : ℕ) (t : Transition) (tests : List Transition) (stands : standing_of now r ≡ at.Within o (t ∷ tests))
        (own_one : Contains (own k o) t) (weak : is_weak t.kind ≡ true) where
      parts : Stepped k r now next
      parts = cases.parts c rules core_rules stages now d related owns r next goes

      pub has_some_weak : has_weak (own k o) ≡ true
      has_some_weak = cases.has_from (λ z. is_weak z.kind) (own k o) t own_one weak

      has : has_aborts (own k o) ≡ true
      has =
          or_right (has_strong (own k o)) (has_weak (own k o)) has_some_weak

      here : IsState k o
      here = state_with_aborts k o has

      pub held : holder k o ≡ r
      held =
          (within_back k core i now r o has (standing_of now r) (standing_of d (i.thread_of r))
          (related.regions r (cases.there c rules core_rules stages now d related owns r next goes)) (t ∷ tests) stands).held

      no_join : is_join t.kind ≡ false
      no_join = weak_no_join t.kind weak

      -- what follows where the monitor is at the test
      abbrev GoesOn : Type 0
      GoesOn = (z : Configuration) → Related k core i now z → MonitorWaits k core i o t tests (standing_of z (i.watcher_of o)) → Followed now z r next

      pub when_ready : GoesOn → Followed now d r next
      when_ready goes_on =
          looked_first k core i (ticks.rows c rules core_rules) (ticks.nested c rules core_rules) (ticks.counts c rules core_rules)
          stages.written_at stages.counters (opening_rows c rules core_rules) stages.strong_zero
          (whole.super_there c rules core_rules) Told (told_silent k core i) now d related o here has
          (subst (λ q. is_guarded k now (around k q) ≡ false) (sym held) parts.free) (act_of (machine k) now r ∷ []) (Stage k i.thread_of next)
          (Related k core i next)
          (λ z related_z looked others. goes_on z related_z
          (looked_weak k core i o (standing_of now (holder k o)) (standing_of z (i.watcher_of o)) looked t tests (ap (standing_of now) held ∙ stands) no_join))
