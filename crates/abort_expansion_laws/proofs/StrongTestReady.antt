-- When a strong test is next in the chart, it comes to be so at the monitor: if that has yet to look at the strong flags around, it looks.
use Rattle.std.proofs.Common.{◌≡◌, ℕ, false, Some, List, [], ◌∷◌, sym, ap, subst, ◌∙◌}
use Rattle.sc_values.specs.Runs.{act_of}
use Rattle.core_charts.specs.declared.features.Features.TheVariants as features
use Rattle.core_charts.specs.declared.region.Transition.{Transition}
use Rattle.core_charts.specs.Chart.{Chart}
use Rattle.core_charts.specs.Rules.{IsChart}
use Rattle.chart_machine.specs.declared.standing.Standing.TheVariants as at
use Rattle.chart_machine.specs.declared.standing.Configuration.{Configuration}
use Rattle.chart_machine.specs.declared.table.Table.{Table}
use Rattle.chart_machine.specs.Table.{table}
use Rattle.chart_machine.specs.Turns.{standing_of, is_guarded}
use Rattle.chart_machine.specs.Steps.{step}
use Rattle.chart_machine.specs.Machine.{machine}
use Rattle.abort_expansion.specs.Expansion.{expanded}
use Rattle.abort_expansion_laws.specs.Stages.{Entry}
use Rattle.chart_machine_laws.specs.Tree.{around, holder}
use Rattle.abort_expansion_laws.specs.CoreRows.{Images}
use Rattle.abort_expansion_laws.specs.Related.{Related}
use Rattle.abort_expansion_laws.proofs.StageReached.{Stage}
use Rattle.abort_expansion_laws.proofs.KnownVariables.{Stepped}
use Rattle.abort_expansion_laws.proofs.HasLooked.{looked_strong}
use Rattle.abort_expansion_laws.proofs.LooksBefore.{looked_first}
use Rattle.abort_expansion_laws.proofs.MoreRows.{opening_rows}
use Rattle.abort_expansion_laws.proofs.OwnTests.{OwnTests}
use Rattle.abort_expansion_laws.proofs.QuietBegins.{state_with_aborts}
use Rattle.abort_expansion_laws.proofs.RowsOfCharts as whole
use Rattle.abort_expansion_laws.proofs.TicksOfCharts as ticks
use Rattle.abort_expansion_laws.proofs.ToldSteps.{told_silent, ToldHere}
use Rattle.abort_expansion_laws.proofs.StrongNotTaken.{IsGuarding, guarding_back, MonitorGuards}
use Rattle.abort_expansion_laws.proofs.CasesFollowed as cases
use Rattle.abort_expansion_laws.proofs.FlagStages.{FlagStages}

module _ (c : Chart) (rules : IsChart features.Extended c) (core_rules : IsChart features.Core (expanded c)) (stages : FlagStages c rules core_rules)
  where
    abbrev k : Table
    k = table c

    abbrev core : Table
    core = table (expanded c)

    abbrev i : Images
    i = whole.i c rules core_rules

    abbrev Told : Configuration → Entry → Type 0
    Told = ToldHere c rules core_rules

    abbrev Followed : (now d : Configuration) (r : ℕ) (next : Configuration) → Type 0
    Followed = cases.Followed c rules core_rules stages

    module _ (now d : Configuration) (related : Related k core i now d) (owns : OwnTests k now) (r : ℕ) (next : Configuration)
        (goes : step k r now ≡ Some next) (o : ℕ) (t : Transition) (tests : List Transition) (stands : standing_of now r ≡ at.Guarding o (t ∷ tests)) where
      parts : Stepped k r now next
      parts = cases.parts c rules core_rules stages now d related owns r next goes

      guards : IsGuarding k core i r o (standing_of d (i.thread_of r))
      guards =
          guarding_back k core i now r (standing_of now r) (standing_of d (i.thread_of r))
          (related.regions r (cases.there c rules core_rules stages now d related owns r next goes)) o (t ∷ tests) stands

      -- what follows where the monitor is at the test
      abbrev GoesOn : Type 0
      GoesOn = (z : Configuration) → Related k core i now z → MonitorGuards k core i o t tests (standing_of z (i.watcher_of o)) → Followed now z r next

      pub strong_ready : GoesOn → Followed now d r next
      strong_ready goes_on =
          looked_first k core i (ticks.rows c rules core_rules) (ticks.nested c rules core_rules) (ticks.counts c rules core_rules)
          stages.written_at stages.counters (opening_rows c rules core_rules) stages.strong_zero
          (whole.super_there c rules core_rules) Told (told_silent k core i) now d related o (state_with_aborts k o guards.has) guards.has
          (subst (λ q. is_guarded k now (around k q) ≡ false) (sym guards.held) parts.free) (act_of (machine k) now r ∷ []) (Stage k i.thread_of next)
          (Related k core i next)
          (λ z related_z looked others. goes_on z related_z
          (looked_strong k core i o (standing_of now (holder k o)) (standing_of z (i.watcher_of o)) looked t tests (ap (standing_of now) guards.held ∙ stands)))
