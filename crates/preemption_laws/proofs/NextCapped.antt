-- What is known of a chart, its core chart and its graph, as a tick starts, and again behind each step, for a number its ranks were within.
use Rattle.std.proofs.Common.{◌≡◌, ℕ, true, Some, List, ◌∷◌, sym, ◌∙◌}
use Rattle.sc_values.specs.Runs.{replay}
use Rattle.sc_graph.specs.declared.control.Control.{Control}
use Rattle.sc_graph.specs.declared.tables.Tables.{Tables}
use Rattle.sc_graph.specs.Machine as graph
use Rattle.sc_graph.specs.Program.{Program}
use Rattle.sc_graph.specs.Valid.{IsValid}
use Rattle.core_charts.specs.declared.features.Features.TheVariants as features
use Rattle.core_charts.specs.Chart.{Chart}
use Rattle.core_charts.specs.Rules.{IsChart}
use Rattle.chart_machine.specs.declared.standing.Standing.TheVariants as at
use Rattle.chart_machine.specs.declared.standing.Configuration.{Configuration}
use Rattle.chart_machine.specs.declared.table.Table.{Table}
use Rattle.chart_machine.specs.Table.{table}
use Rattle.chart_machine.specs.Turns.{standing_of}
use Rattle.chart_machine.specs.Steps.{step}
use Rattle.scl.specs.declared.program.Scl.{Scl}
use Rattle.scl.specs.Numbering.{numbered}
use Rattle.scl_graph.specs.Graph.{program_of}
use Rattle.abort_expansion.specs.Expansion.{expanded}
use Rattle.chart_lowering_laws.specs.Laws.{IsLowering}
use Rattle.chart_machine_laws.specs.Tree.{IsThere}
use Rattle.compiled_charts_laws.proofs.AtJoins as at_joins
use Rattle.compiled_charts_laws.proofs.LateTests.{is_late}
use Rattle.abort_expansion_laws.specs.CoreRows.{Images}
use Rattle.abort_expansion_laws.proofs.KnownVariables.{present_there}
use Rattle.abort_expansion_laws.proofs.Owed.{Started}
use Rattle.abort_expansion_laws.proofs.OwnTests.{OwnTests}
use Rattle.abort_expansion_laws.proofs.OwnTestsKept.{own_tests_kept}
use Rattle.abort_expansion_laws.proofs.QuietBegins.{LoweredTests}
use Rattle.abort_expansion_laws.proofs.TicksOfCharts as ticks
use Rattle.preemption_laws.specs.StepNodes.{Alike}
use Rattle.preemption_laws.proofs.CappedSteps.{IsCapped}
use Rattle.preemption_laws.proofs.ChartOrder.{AllAt}
use Rattle.preemption_laws.proofs.GraphComes.{graph_run, graph_next, graph_leads, all_there, alike_there, quiet_there, own_there}
use Rattle.preemption_laws.proofs.GreatestPriority.{greatest_priority, all_ahead, all_once_stepped}
use Rattle.preemption_laws.proofs.MonitorsLow.{lowered, MonitorsQuiet, guards_low}
use Rattle.preemption_laws.proofs.OpenedThreads.{waits_there}
use Rattle.preemption_laws.proofs.OthersLow.{RanksWithin}
use Rattle.preemption_laws.proofs.StepLow.{LinesLow, StepsItself, step_low}
use Rattle.preemption_laws.proofs.StepRuns.{StepRun, step_run, StartRun, start_run}

module _ (c : Chart) (rules : IsChart features.Extended c) (core_rules : IsChart features.Core (expanded c)) (p : Scl)
    (q : Tables) (low : IsLowering (expanded c) p) (valid : IsValid (program_of (numbered p)) q)
    (lowered_tests : LoweredTests (table (expanded c)) (program_of (numbered p)) (Alike (expanded c) p) (lowered c rules core_rules p q low valid))
    (earlier : (d next : Configuration) (t g : ℕ) → step (table (expanded c)) t d ≡ Some next → is_late (standing_of next g) ≡ true →
    is_late (standing_of d g) ≡ true) where
  abbrev k : Table
  k = table c

  abbrev core : Table
  core = table (expanded c)

  abbrev i : Images
  i = ticks.i c rules core_rules

  abbrev G : Program
  G = program_of (numbered p)

  abbrev Quiet : Configuration → Control → Type 0
  Quiet = MonitorsQuiet c rules core_rules p q low valid lowered_tests earlier

  -- ---- behind a step

  module _ (now next d : Configuration) (m : Control) (most least : ℕ) (known : IsCapped c rules core_rules p q low valid now d m most) (quiet : Quiet d m)
      (ranks : RanksWithin c rules core_rules p q low valid now m most least) (r : ℕ) (steps : step k r now ≡ Some next) where
    pub followed : StepRun c rules core_rules now d r next
    followed = step_run c rules core_rules now d known.all.related known.all.owns r next steps

    pub owns_next : OwnTests k next
    owns_next = (own_tests_kept c rules core_rules).steps now next r known.all.owns steps

    abbrev pub run : List ℕ
    run =
        graph_run c rules core_rules p q low valid lowered_tests earlier next d followed.last m known.alike quiet followed.run followed.runs
        followed.ready.related followed.ready.ready owns_next

    abbrev pub n : Control
    n =
        graph_next c rules core_rules p q low valid lowered_tests earlier next d followed.last m known.alike quiet followed.run followed.runs
        followed.ready.related followed.ready.ready owns_next

    pub quiet_next : Quiet followed.last n
    quiet_next =
        quiet_there c rules core_rules p q low valid lowered_tests earlier next d followed.last m known.alike quiet followed.run followed.runs
        followed.ready.related followed.ready.ready owns_next

    all_next : AllAt c rules core_rules p q low valid next followed.last n
    all_next =
        all_there c rules core_rules p q low valid lowered_tests earlier next d followed.last m known.alike quiet followed.run followed.runs
        followed.ready.related followed.ready.ready owns_next

    alike_next : Alike (expanded c) p followed.last n
    alike_next =
        alike_there c rules core_rules p q low valid lowered_tests earlier next d followed.last m known.alike quiet followed.run followed.runs
        followed.ready.related followed.ready.ready owns_next

    leads_next : replay (graph.machine G) run m ≡ Some n
    leads_next =
        graph_leads c rules core_rules p q low valid lowered_tests earlier next d followed.last m known.alike quiet followed.run followed.runs
        followed.ready.related followed.ready.ready owns_next

    -- who tests an opened superstate has his thread step
    in_run : StepsItself c rules core_rules now next r run
    in_run s t tests was low_stage =
        own_there c rules core_rules p q low valid lowered_tests earlier next d followed.last m known.alike quiet followed.run followed.runs
        followed.ready.related followed.ready.ready owns_next (i.thread_of r) (at_joins.join_of (expanded c) p low (i.main_of s))
        (waits_there c rules core_rules p q low valid now d m r s t tests known.all there was) (followed.own s t tests was low_stage)
      where
        there : IsThere k r
        there =
            present_there k core i now d known.all.related r
            (λ out. let wrong : at.Outside ≡ at.Within s (t ∷ tests) = sym out ∙ was in absurd cc)

    low_next : LinesLow c rules core_rules p q low valid next n least
    low_next = step_low c rules core_rules p q low valid now d next followed.last m n most least r run known ranks steps leads_next all_next in_run

    pub next_capped : IsCapped c rules core_rules p q low valid next followed.last n least
    next_capped =
        record {
          all = all_next;
          alike = alike_next;
          lines = low_next.lines;
          joins = low_next.joins;
          guarded = λ t on guards some.
              guards_low c rules core_rules p q low valid lowered_tests earlier next followed.last n all_next alike_next quiet_next t on
              guards some;
        }

  -- ---- as a tick starts

  module _ (now d : Configuration) (m : Control) (started : Started k core i now d) (owns : OwnTests k now) (alike : Alike (expanded c) p d m)
      (quiet : Quiet d m) where
    pub first : StartRun c rules core_rules now d
    first = start_run c rules core_rules now d started

    abbrev pub m_first : Control
    m_first =
        graph_next c rules core_rules p q low valid lowered_tests earlier now d first.last m alike quiet first.run first.runs first.ready.related
        first.ready.ready owns

    pub quiet_first : Quiet first.last m_first
    quiet_first =
        quiet_there c rules core_rules p q low valid lowered_tests earlier now d first.last m alike quiet first.run first.runs first.ready.related
        first.ready.ready owns

    all_first : AllAt c rules core_rules p q low valid now first.last m_first
    all_first =
        all_there c rules core_rules p q low valid lowered_tests earlier now d first.last m alike quiet first.run first.runs first.ready.related
        first.ready.ready owns

    alike_first : Alike (expanded c) p first.last m_first
    alike_first =
        alike_there c rules core_rules p q low valid lowered_tests earlier now d first.last m alike quiet first.run first.runs first.ready.related
        first.ready.ready owns

    pub first_capped : IsCapped c rules core_rules p q low valid now first.last m_first (greatest_priority q)
    first_capped =
        record {
          all = all_first;
          alike = alike_first;
          lines = λ t on out. all_ahead G q (i.thread_of t) m_first;
          joins = λ t on inside. all_once_stepped G q (i.thread_of t) m_first;
          guarded = λ t on guards some.
              guards_low c rules core_rules p q low valid lowered_tests earlier now first.last m_first all_first alike_first quiet_first t on
              guards some;
        }
