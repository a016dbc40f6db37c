-- From where a core chart and its valid graph rest alike, the core chart has an end of each tick by accepted inputs: that of the graph's one end.
use Rattle.sc_values.specs.Runs.{Ends}
use Rattle.sc_graph.specs.declared.control.Control.{Control}
use Rattle.sc_graph.specs.declared.tables.Tables.{Tables}
use Rattle.sc_graph.specs.Program.{Program}
use Rattle.sc_graph.specs.Machine as graph
use Rattle.sc_graph.specs.Tick.{Inputs, AreAccepted}
use Rattle.sc_graph.specs.Tick as graph_tick
use Rattle.sc_graph.specs.Valid.{IsValid}
use Rattle.tick_laws.specs.OneEnd.{OneEnd}
use Rattle.tick_laws.proofs.Final.{one_end_of_tick}
use Rattle.core_charts.specs.Chart.{Chart}
use Rattle.chart_machine.specs.declared.standing.Configuration.{Configuration}
use Rattle.chart_machine.specs.declared.table.Table.{Table}
use Rattle.chart_machine.specs.Machine.{machine, start}
use Rattle.chart_machine.specs.Table.{table}
use Rattle.scl.specs.declared.program.Scl.{Scl}
use Rattle.scl.specs.Numbering.{Numbered, numbered}
use Rattle.scl.specs.Meaning.{State}
use Rattle.scl.specs.Meaning as text
use Rattle.scl_graph.specs.Graph.{program_of}
use Rattle.scl_graph_laws.specs.Alike.{EndsAlike}
use Rattle.scl_graph_laws.specs.Keeps.{Corresponds, Keeps}
use Rattle.scl_graph_laws.proofs.RunsKept.{program_keeps_runs}
use Rattle.chart_lowering_laws.specs.Keeps.{AtRestBack, KeepsTicks}
use Rattle.chart_lowering_laws.specs.Laws.{IsLowering}
use Rattle.chart_lowering_laws.specs.Layout.{Layout}
use Rattle.chart_lowering_laws.specs.Marks.{layout}
use Rattle.chart_lowering_laws.proofs.Lowered.{chart_is_lowered}
use Rattle.chart_lowering_laws.proofs.TicksKept.{keeps_runs}
use Rattle.compiled_charts_laws.proofs.TickStarts as tick_starts

module _ (c : Chart) (p : Scl) (q : Tables) (low : IsLowering c p) (valid : IsValid (program_of (numbered p)) q) where
  abbrev K : Table
  K = table c

  abbrev P : Numbered
  P = numbered p

  abbrev G : Program
  G = program_of P

  abbrev L : Layout
  L = layout c P.root

  lowering : KeepsTicks K P L
  lowering = (keeps_runs K P L (chart_is_lowered c p low)).ticks

  nodes : Keeps P G
  nodes = program_keeps_runs p low.rules low.no_loop

  pub core_has_end : (inputs : Inputs) → AreAccepted G inputs → (d : Configuration) (m : Control) → tick_starts.Between c p q low valid d m →
      (e : Configuration) × Ends (machine K) (start K inputs d) e
  core_has_end inputs accepted d m x =
      let one : OneEnd G q (graph_tick.start G inputs m) = one_end_of_tick G q m inputs valid x.rests accepted in
      let ends : Ends (graph.machine G) (graph_tick.start G inputs m) one.exists.end =
      (one.of_priority one.exists.run one.exists.end one.exists.by_priority).ends one.exists.complete.over in
      let in_text : EndsAlike (text.machine P) Control (λ f s. Corresponds P s f) one.exists.end (text.start P inputs x.state) =
      nodes.goes_on.ends_back (text.start P inputs x.state) (graph_tick.start G inputs m) one.exists.end
      (nodes.starts inputs x.state m accepted x.corresponds) ends in
      let in_chart : EndsAlike (machine K) State (AtRestBack K P L) in_text.end (start K inputs d) =
      lowering.ends_back inputs d x.state in_text.end x.alike in_text.is_end in
      (in_chart.end, in_chart.is_end)
