-- Where a core chart goes along with its chart, its graph comes along, to where the threads are at their nodes and monitors quiet; and who
-- leaves its superstate there leaves its join.
use Rattle.std.proofs.Common.{◌≡◌, ℕ, true, Some, List, ◌++◌, Contains, ◌∙◌}
use Rattle.sc_values.specs.Runs.{replay}
use Rattle.sc_graph.specs.declared.control.Control.{Control}
use Rattle.sc_graph.specs.declared.control.Status.TheVariants as status
use Rattle.sc_graph.specs.declared.tables.Tables.{Tables}
use Rattle.sc_graph.specs.Control.{status_of}
use Rattle.sc_graph.specs.Machine as graph
use Rattle.sc_graph.specs.Program.{Program}
use Rattle.sc_graph.specs.Valid.{IsValid}
use Rattle.tick_laws.proofs.RunsOn.{replay_append}
use Rattle.core_charts.specs.declared.features.Features.TheVariants as features
use Rattle.core_charts.specs.Chart.{Chart}
use Rattle.core_charts.specs.Rules.{IsChart}
use Rattle.chart_machine.specs.declared.standing.Configuration.{Configuration}
use Rattle.chart_machine.specs.declared.table.Table.{Table}
use Rattle.chart_machine.specs.Machine.{machine}
use Rattle.chart_machine.specs.Table.{table}
use Rattle.chart_machine.specs.Turns.{standing_of}
use Rattle.chart_machine.specs.Steps.{step}
use Rattle.scl.specs.declared.program.Scl.{Scl}
use Rattle.scl.specs.Numbering.{numbered}
use Rattle.scl_graph.specs.Graph.{program_of}
use Rattle.abort_expansion.specs.Expansion.{expanded}
use Rattle.chart_lowering_laws.specs.Laws.{IsLowering}
use Rattle.compiled_charts_laws.proofs.LateTests.{is_late}
use Rattle.abort_expansion_laws.specs.CoreRows.{Images}
use Rattle.abort_expansion_laws.specs.Related.{Related}
use Rattle.abort_expansion_laws.proofs.OwnTests.{OwnTests}
use Rattle.abort_expansion_laws.proofs.QuietBegins.{LoweredTests}
use Rattle.abort_expansion_laws.proofs.TicksOfCharts as ticks
use Rattle.preemption_laws.specs.StepNodes.{Alike}
use Rattle.preemption_laws.proofs.ChartOrder.{AllAt}
use Rattle.preemption_laws.proofs.GraphRuns.{GoesToNodes, goes_to_nodes, comes_own}
use Rattle.preemption_laws.proofs.MonitorsLow.{lowered, MonitorsQuiet}
use Rattle.preemption_laws.proofs.QuietRuns.{steps_keep, coming_keeps}
use Rattle.abort_expansion_laws.proofs.MonitorsReady.{IsReady}

module _ (c : Chart) (rules : IsChart features.Extended c) (core_rules : IsChart features.Core (expanded c)) (p : Scl) (q : Tables)
    (low : IsLowering (expanded c) p) (valid : IsValid (program_of (numbered p)) q)
    (lowered_tests : LoweredTests (table (expanded c)) (program_of (numbered p)) (Alike (expanded c) p) (lowered c rules core_rules p q low valid))
    (earlier : (d next : Configuration) (t g : ℕ) → step (table (expanded c)) t d ≡ Some next → is_late (standing_of next g) ≡ true →
    is_late (standing_of d g) ≡ true) where
  abbrev k : Table
  k = table c

  abbrev core : Table
  core = table (expanded c)

  abbrev i : Images
  i = ticks.i c rules core_rules

  abbrev G : Program
  G = program_of (numbered p)

  abbrev Quiet : Configuration → Control → Type 0
  Quiet = MonitorsQuiet c rules core_rules p q low valid lowered_tests earlier

  -- ---- the graph comes along with the core chart

  module _ (now d e : Configuration) (m : Control) (alike : Alike (expanded c) p d m) (quiet : Quiet d m) (steps : List ℕ)
      (runs : replay (machine core) steps d ≡ Some e) (related : Related k core i now e)
      (ready : (o : ℕ) → IsReady k core i now e o) (owns : OwnTests k now) where
    there : GoesToNodes (expanded c) p q low valid Quiet (steps_keep c rules core_rules p q low valid lowered_tests earlier) e m
    there =
        goes_to_nodes (expanded c) p q low valid Quiet (steps_keep c rules core_rules p q low valid lowered_tests earlier) steps d e m alike quiet runs

    pub graph_run : List ℕ
    graph_run = there.between.run ++ there.come.nodes.run

    pub graph_next : Control
    graph_next = there.come.nodes.last

    pub graph_leads : replay (graph.machine G) graph_run m ≡ Some graph_next
    unfolding graph_run graph_next
    graph_leads = replay_append G there.between.run there.come.nodes.run m there.between.last there.between.leads ∙ there.come.nodes.leads

    pub all_there : AllAt c rules core_rules p q low valid now e graph_next
    unfolding graph_next
    all_there =
        record {
          related = related;
          ready = ready;
          owns = owns;
          nodes = there.come.nodes.nodes;
          goes = there.come.goes;
          waits = there.come.waits;
          firsts = there.come.firsts;
          resumed = there.come.resumed;
        }

    pub alike_there : Alike (expanded c) p e graph_next
    unfolding graph_next
    alike_there = there.come.nodes.stands

    pub quiet_there : Quiet e graph_next
    unfolding graph_next
    quiet_there = coming_keeps c rules core_rules p q low valid lowered_tests earlier e there.between.last there.come there.between.holds

    -- a thread of that run that waits at a join has stepped
    pub own_there : (t j : ℕ) → status_of m t ≡ status.Waiting j → Contains steps t → Contains graph_run t
    unfolding graph_run there
    own_there t j waits has =
        comes_own (expanded c) p q low valid Quiet (steps_keep c rules core_rules p q low valid lowered_tests earlier) t j steps d e m alike quiet runs
        waits has
