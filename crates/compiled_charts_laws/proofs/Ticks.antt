-- Tick for tick, the chart and the graph of its lowering are seen alike.
use Rattle.std.proofs.Common.{◌≡◌, ℕ, Option, List, [], ◌∷◌, sym, subst, ◌∙◌}
use Rattle.sc_values.specs.Runs.{Ends}
use Rattle.sc_graph.specs.declared.control.Control.{Control}
use Rattle.sc_graph.specs.declared.tables.Tables.{Tables}
use Rattle.sc_graph.specs.Program.{Program}
use Rattle.sc_graph.specs.Machine as graph
use Rattle.sc_graph.specs.Tick.{Inputs, AreAccepted, Rests}
use Rattle.sc_graph.specs.Tick as graph_tick
use Rattle.sc_graph.specs.Valid.{IsValid}
use Rattle.sc_graph.proofs.AtRest.{rests-initial}
use Rattle.tick_laws.specs.OneEnd.{OneEnd}
use Rattle.tick_laws.proofs.Final.{one_end_of_tick}
use Rattle.core_charts.specs.Chart.{Chart}
use Rattle.chart_machine.specs.declared.standing.Configuration.{Configuration}
use Rattle.chart_machine.specs.declared.table.Table.{Table}
use Rattle.chart_machine.specs.Table.{table}
use Rattle.chart_machine.specs.Machine as chart
use Rattle.scl.specs.declared.program.Scl.{Scl}
use Rattle.scl.specs.Numbering.{Numbered, numbered}
use Rattle.scl.specs.Meaning.{State}
use Rattle.scl.specs.Meaning as text
use Rattle.scl_graph.specs.Graph.{program_of}
use Rattle.scl_graph_laws.specs.Alike.{EndsAlike}
use Rattle.scl_graph_laws.specs.Keeps.{Corresponds, Keeps}
use Rattle.scl_graph_laws.proofs.RunsKept.{program_keeps_runs}
use Rattle.chart_lowering_laws.specs.Layout.{Layout}
use Rattle.chart_lowering_laws.specs.Marks.{layout}
use Rattle.chart_lowering_laws.specs.Laws.{IsLowering}
use Rattle.chart_lowering_laws.specs.Keeps.{AtRest, AtRestBack, KeepsTicks, Reaction, EachPair}
use Rattle.chart_lowering_laws.proofs.Lowered.{chart_is_lowered}
use Rattle.chart_lowering_laws.proofs.Telling.{tells_states}
use Rattle.chart_lowering_laws.proofs.TicksKept.{keeps_runs}
use Rattle.compiled_charts_laws.specs.Reactions.{AreSeenAlike, AllAccepted, HasOneReaction}
use Rattle.compiled_charts_laws.specs.Nodes.{StandForStates}
use Rattle.compiled_charts_laws.proofs.Resting.{told_alike}

module _ (c : Chart) (p : Scl) (q : Tables) (low : IsLowering c p) (valid : IsValid (program_of (numbered p)) q) (row : List (Option ℕ))
    (stands : StandForStates (table c) (numbered p).root (layout c (numbered p).root) row) where
  abbrev K : Table
  K = table c

  abbrev P : Numbered
  P = numbered p

  abbrev G : Program
  G = program_of P

  abbrev L : Layout
  L = layout c P.root

  lowering : KeepsTicks K P L
  lowering = (keeps_runs K P L (chart_is_lowered c p low)).ticks

  nodes : Keeps P G
  nodes = program_keeps_runs p low.rules low.no_loop

  -- between two ticks: a configuration of the text stands between the two
  pub record Between (d : Configuration) (e : Control) : Type 0 where
    pub state : State
    pub alike : AtRest K P L d state
    pub corresponds : Corresponds P state e
    pub rests : Rests G e

  pub begins : Between (chart.initial K) (graph_tick.initial G)
  begins = record { state = text.initial P; alike = lowering.begins; corresponds = nodes.begins; rests = rests-initial G }

  seen : (d : Configuration) (e : Control) → Between d e → AreSeenAlike K row d e
  seen d e x = record {
    variables = x.corresponds.variables ∙ sym x.alike.corresponds.variables;
    active = told_alike K P L (chart_is_lowered c p low) (tells_states c p low) row stands d x.state x.alike e
        x.corresponds.statuses;
  }

  -- the graph has one end
  module _ (inputs : Inputs) (accepted : AreAccepted G inputs) (e : Control) (rests : Rests G e) where
    one : OneEnd G q (graph_tick.start G inputs e)
    one = one_end_of_tick G q e inputs valid rests accepted

    is_end : (f : Control) → Ends (graph.machine G) (graph_tick.start G inputs e) f → f ≡ one.exists.end
    is_end f ends = (one.of_priority one.exists.run one.exists.end one.exists.by_priority).one_end one.exists.complete.over f ends

    end_rests : (f : Control) → Ends (graph.machine G) (graph_tick.start G inputs e) f → Rests G f
    end_rests f ends = subst (Rests G) (sym (is_end f ends)) one.exists.rests

  -- an end of the graph, and what stands between
  pub record GoesTo (inputs : Inputs) (e : Control) (d' : Configuration) : Type 0 where
    pub end : Control
    pub ends : Ends (graph.machine G) (graph_tick.start G inputs e) end
    pub between : Between d' end

  pub goes_to : (inputs : Inputs) → AreAccepted G inputs → (d : Configuration) (e : Control) → Between d e → (d' : Configuration) →
      Ends (chart.machine K) (chart.start K inputs d) d' → GoesTo inputs e d'
  goes_to inputs accepted d e x d' ends =
      let in_text : EndsAlike (text.machine P) Configuration (AtRest K P L) d' (text.start P inputs x.state) = lowering.ends inputs d x.state d' x.alike ends in
      let in_graph : EndsAlike (graph.machine G) State (Corresponds P) in_text.end (graph_tick.start G inputs e) =
      nodes.goes_on.ends (text.start P inputs x.state) (graph_tick.start G inputs e) in_text.end (nodes.starts inputs x.state e accepted x.corresponds)
      in_text.is_end in
      record {
        end = in_graph.end;
        ends = in_graph.is_end;
        between = record {
          state = in_text.end;
          alike = in_text.corresponds;
          corresponds = in_graph.corresponds;
          rests = end_rests inputs accepted e x.rests in_graph.end in_graph.is_end;
        };
      }

  goes_on : (inputs : Inputs) → AreAccepted G inputs → (d : Configuration) (e : Control) → Between d e → (d' : Configuration) (e' : Control) →
      Ends (chart.machine K) (chart.start K inputs d) d' → Ends (graph.machine G) (graph_tick.start G inputs e) e' → Between d' e'
  goes_on inputs accepted d e x d' e' ends ends_too =
      let to : GoesTo inputs e d' = goes_to inputs accepted d e x d' ends in
      subst (Between d') (is_end inputs accepted e x.rests to.end to.ends ∙ sym (is_end inputs accepted e x.rests e' ends_too)) to.between

  -- an end of the chart, and what stands between
  record ComesFrom (inputs : Inputs) (d : Configuration) (e' : Control) : Type 0 where
    end : Configuration
    ends : Ends (chart.machine K) (chart.start K inputs d) end
    between : Between end e'

  comes_from : (inputs : Inputs) → AreAccepted G inputs → (d : Configuration) (e : Control) → Between d e → (e' : Control) →
      Ends (graph.machine G) (graph_tick.start G inputs e) e' → ComesFrom inputs d e'
  comes_from inputs accepted d e x e' ends =
      let in_text : EndsAlike (text.machine P) Control (λ f s. Corresponds P s f) e' (text.start P inputs x.state) =
      nodes.goes_on.ends_back (text.start P inputs x.state) (graph_tick.start G inputs e) e' (nodes.starts inputs x.state e accepted x.corresponds) ends in
      let in_chart : EndsAlike (chart.machine K) State (AtRestBack K P L) in_text.end (chart.start K inputs d) =
      lowering.ends_back inputs d x.state in_text.end x.alike in_text.is_end in
      record {
        end = in_chart.end;
        ends = in_chart.is_end;
        between = record {
          state = in_text.end;
          alike = in_chart.corresponds;
          corresponds = in_text.corresponds;
          rests = end_rests inputs accepted e x.rests e' ends;
        };
      }

  all_alike : (ticks : List Inputs) (ds : List Configuration) (es : List Control) (d : Configuration) (e : Control) → Between d e → AllAccepted G ticks →
      Reaction (chart.machine K) (chart.start K) d ticks ds →
      Reaction (graph.machine G) (graph_tick.start G) e ticks es → EachPair (AreSeenAlike K row) ds es
  all_alike [] [] [] d e x accepted reacts reacts_too = tt
  all_alike (g ∷ ticks) (d' ∷ ds) (e' ∷ es) d e x accepted reacts reacts_too =
      let next : Between d' e' = goes_on g accepted.0 d e x d' e' reacts.0 reacts_too.0 in
      (seen d' e' next, all_alike ticks ds es d' e' next accepted.1 reacts.1 reacts_too.1)
  all_alike [] (d' ∷ ds) es d e x accepted reacts reacts_too = absurd reacts
  all_alike [] [] (e' ∷ es) d e x accepted reacts reacts_too = absurd reacts_too
  all_alike (g ∷ ticks) [] es d e x accepted reacts reacts_too = absurd reacts
  all_alike (g ∷ ticks) (d' ∷ ds) [] d e x accepted reacts reacts_too = absurd reacts_too

  -- from here on
  record ReactsFrom (d : Configuration) (ticks : List Inputs) (es : List Control) : Type 0 where
    ends : List Configuration
    reacts : Reaction (chart.machine K) (chart.start K) d ticks ends
    alike : EachPair (AreSeenAlike K row) ends es

  reacts_from : (ticks : List Inputs) (es : List Control) (d : Configuration) (e : Control) → Between d e → AllAccepted G ticks →
      Reaction (graph.machine G) (graph_tick.start G) e ticks es → ReactsFrom d ticks es
  reacts_from [] [] d e x accepted reacts = record { ends = []; reacts = tt; alike = tt }
  reacts_from (g ∷ ticks) (e' ∷ es) d e x accepted reacts =
      let first : ComesFrom g d e' = comes_from g accepted.0 d e x e' reacts.0 in
      let more : ReactsFrom first.end ticks es = reacts_from ticks es first.end e' first.between accepted.1 reacts.1 in
      record { ends = first.end ∷ more.ends; reacts = (first.ends, more.reacts); alike = (seen first.end e' first.between, more.alike) }
  reacts_from [] (e' ∷ es) d e x accepted reacts = absurd reacts
  reacts_from (g ∷ ticks) [] d e x accepted reacts = absurd reacts

  pub one_reaction : HasOneReaction c row G
  one_reaction = record {
    each = λ ticks ds es accepted reacts reacts_too. all_alike ticks ds es (chart.initial K) (graph_tick.initial G) begins accepted reacts reacts_too;
    some = λ ticks es accepted reacts.
        let from : ReactsFrom (chart.initial K) ticks es = reacts_from ticks es (chart.initial K) (graph_tick.initial G) begins accepted reacts in
        record { ends = from.ends; reacts = from.reacts; alike = from.alike };
  }
