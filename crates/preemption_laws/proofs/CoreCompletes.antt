-- Whichever run of a core chart completes a tick, admissible or not, its graph has one that does, and both rest alike again.
use Rattle.std.proofs.Common.{◌≡◌, ℕ, true, false, Some, List, [], ◌∷◌, ◌++◌, refl, sym, ap, subst, ◌∙◌}
use Rattle.std.proofs.lemmas.Option.{same_Some}
use Rattle.sc_values.specs.Runs.{Machine, replay, Completes, IsOver}
use Rattle.sc_graph.specs.declared.control.Control.{Control}
use Rattle.sc_graph.specs.declared.tables.Tables.{Tables}
use Rattle.sc_graph.specs.Control.{status_enabled}
use Rattle.sc_graph.specs.Machine as graph
use Rattle.sc_graph.specs.Program.{Program}
use Rattle.sc_graph.specs.Tick.{Inputs, AreAccepted, Rests}
use Rattle.sc_graph.specs.Tick as graph_tick
use Rattle.sc_graph.specs.Valid.{IsValid}
use Rattle.tick_laws.specs.OneEnd.{OneEnd}
use Rattle.tick_laws.proofs.Final.{one_end_of_tick}
use Rattle.core_charts.specs.Chart.{Chart}
use Rattle.chart_machine.specs.declared.standing.Configuration.{Configuration}
use Rattle.chart_machine.specs.declared.table.Table.{Table}
use Rattle.chart_machine.specs.Machine.{machine, start}
use Rattle.chart_machine.specs.Table.{table}
use Rattle.scl.specs.declared.program.Scl.{Scl}
use Rattle.scl.specs.Numbering.{Numbered, numbered}
use Rattle.scl.specs.Meaning.{State}
use Rattle.scl.specs.Meaning as text
use Rattle.scl_graph.specs.Graph.{program_of}
use Rattle.scl_graph_laws.specs.Keeps.{Keeps}
use Rattle.scl_graph_laws.specs.Keeps.{Corresponds as StandsInGraph}
use Rattle.scl_graph_laws.proofs.Alike.{from_both}
use Rattle.scl_graph_laws.proofs.RunsKept.{program_keeps_runs}
use Rattle.chart_lowering_laws.specs.Corresponds.{Corresponds}
use Rattle.chart_lowering_laws.specs.Keeps.{AtRest, KeepsSteps}
use Rattle.chart_lowering_laws.specs.Laws.{IsLowering}
use Rattle.chart_lowering_laws.specs.Layout.{Layout}
use Rattle.chart_lowering_laws.specs.Marks.{layout}
use Rattle.chart_lowering_laws.proofs.Following.{replay_append}
use Rattle.chart_lowering_laws.proofs.Lowered.{chart_is_lowered}
use Rattle.chart_lowering_laws.proofs.TicksKept.{keeps_runs}
use Rattle.compiled_charts_laws.proofs.TickStarts as tick_starts
use Rattle.preemption_laws.proofs.ByRank.{Begins, begins}

module _ (c : Chart) (p : Scl) (q : Tables) (low : IsLowering c p) (valid : IsValid (program_of (numbered p)) q) where
  abbrev K : Table
  K = table c

  abbrev P : Numbered
  P = numbered p

  abbrev G : Program
  G = program_of P

  abbrev L : Layout
  L = layout c P.root

  abbrev of_text : Machine
  of_text = text.machine P

  steps : KeepsSteps K P L
  steps = (keeps_runs K P L (chart_is_lowered c p low)).steps

  nodes : Keeps P G
  nodes = program_keeps_runs p low.rules low.no_loop

  abbrev Between : Configuration → Control → Type 0
  Between = tick_starts.Between c p q low valid

  -- the text goes along
  record TextGoes (d : Configuration) (s : State) : Type 0 where
    run : List ℕ
    end : State
    runs : replay of_text run s ≡ Some end
    corresponds : Corresponds K P L d end

  text_goes : (run : List ℕ) (d e : Configuration) (s : State) → Corresponds K P L d s → replay (machine K) run d ≡ Some e → TextGoes e s
  text_goes [] d e s corr runs =
      record { run = []; end = s; runs = refl; corresponds = subst (λ z. Corresponds K P L z s) (same_Some d e runs) corr }
  text_goes (t ∷ run) d e s corr runs =
      let b : Begins (machine K) t run d e = begins (machine K) t run d e runs in
      let one = steps.there.step d b.next s t corr b.steps in
      let rest : TextGoes e one.end = text_goes run b.next e one.end one.good b.rest in
      record {
        run = one.run ++ rest.run;
        end = rest.end;
        runs = replay_append of_text one.run rest.run s one.end one.runs ∙ rest.runs;
        corresponds = rest.corresponds;
      }

  -- and comes to rest
  record TextRests (d : Configuration) (s : State) : Type 0 where
    run : List ℕ
    end : State
    runs : replay of_text run s ≡ Some end
    alike : AtRest K P L d end

  text_rests : (run : List ℕ) (d e : Configuration) (s : State) → Corresponds K P L d s → Completes (machine K) run d e → TextRests e s
  text_rests run d e s corr completes =
      let there : TextGoes e s = text_goes run d e s corr completes.runs in
      let last = steps.there.over e there.end there.corresponds completes.over in
      record {
        run = there.run ++ last.run;
        end = last.end;
        runs = replay_append of_text there.run last.run s there.end there.runs ∙ last.runs;
        alike = last.good.1;
      }

  pub completes_to : (inputs : Inputs) → AreAccepted G inputs → (d : Configuration) (m : Control) → Between d m → (run : List ℕ) (e : Configuration) →
      Completes (machine K) run (start K inputs d) e → (n : Control) × Between e n
  completes_to inputs accepted d m x run e completes =
      (there.0, record { state = rested.end; alike = rested.alike; corresponds = there.2; rests = rests })
    where
      rested : TextRests e (text.start P inputs x.state)
      rested = text_rests run (start K inputs d) e (text.start P inputs x.state) (steps.starts inputs d x.state x.alike) completes

      there : (n : Control) × (replay (graph.machine G) rested.run (graph_tick.start G inputs m) ≡ Some n) × StandsInGraph P rested.end n
      there =
          from_both (StandsInGraph P) (replay of_text rested.run (text.start P inputs x.state))
          (replay (graph.machine G) rested.run (graph_tick.start G inputs m)) rested.end
          (nodes.goes_on.runs rested.run (text.start P inputs x.state) (graph_tick.start G inputs m)
          (nodes.starts inputs x.state m accepted x.corresponds)) rested.runs

      one : OneEnd G q (graph_tick.start G inputs m)
      one = one_end_of_tick G q m inputs valid x.rests accepted

      over : IsOver (graph.machine G) there.0
      over = (nodes.goes_on.over rested.end there.0 there.2).0 rested.alike.over_too

      rests : Rests G there.0
      rests =
          record {
            configuration = (one.of_each rested.run there.0 there.1).configuration;
            nobody_at = λ t n is. let wrong : true ≡ false = sym (ap (status_enabled G there.0) is) ∙ over t in absurd cc;
          }
