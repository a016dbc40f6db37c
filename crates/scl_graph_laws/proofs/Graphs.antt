-- Each program that mirrors a text keeps its runs.
use Rattle.std.proofs.Common.{◌≡◌, ℕ, suc, Some, List, [], ◌∷◌, slice_get, refl, sym, subst}
use Rattle.sc_values.specs.Runs.{replay}
use Rattle.sc_graph.specs.declared.control.Control.{Control}
use Rattle.sc_graph.specs.Program.{Program}
use Rattle.sc_graph.specs.Machine.{machine as machine_of_nodes}
use Rattle.sc_graph.specs.Tick.{Inputs, AreAccepted, start as start_of_nodes, initial as initial_of_nodes}
use Rattle.scl.specs.Numbering.{Numbered}
use Rattle.scl.specs.Meaning.{State, machine, initial, start}
use Rattle.scl_graph_laws.specs.Alike.{Both, RunsAlike}
use Rattle.scl_graph_laws.specs.Ticks.{after_ticks}
use Rattle.scl_graph_laws.specs.Settling.{Settling}
use Rattle.scl_graph_laws.specs.Mirrors.{Mirrors}
use Rattle.scl_graph_laws.specs.Keeps.{Corresponds, HaveOwnNames, Keeps}
use Rattle.scl_graph_laws.proofs.Alike.{both_then}
use Rattle.scl_graph_laws.proofs.Inputs.{Fit, accepted_fit}
use Rattle.scl_graph_laws.proofs.Beginning.{begins, starts}
use Rattle.scl_graph_laws.proofs.StepsAlike.{goes_on}

module _ (p : Numbered) (q : Program) (begin : (inputs : Inputs) (s : State) (c : Control) → AreAccepted q inputs → Corresponds p s c
    → Corresponds p (start p inputs s) (start_of_nodes q inputs c))
    (runs : RunsAlike (machine p) (machine_of_nodes q) (Corresponds p)) where
  ticks_alike : (ticks : List (Inputs × List ℕ)) → ((i : ℕ) (inputs : Inputs) (run : List ℕ) → slice_get ticks i ≡ Some (inputs, run) → AreAccepted q inputs)
      → (s : State) (c : Control) → Corresponds p s c →
      Both (Corresponds p) (after_ticks (machine p) (start p) ticks s) (after_ticks (machine_of_nodes q) (start_of_nodes q) ticks c)
  ticks_alike [] accepted s c h = h
  ticks_alike (tick ∷ ticks) accepted s c h =
      both_then (Corresponds p) (after_ticks (machine p) (start p) ticks) (after_ticks (machine_of_nodes q) (start_of_nodes q) ticks)
      (λ d e k. ticks_alike ticks (λ i inputs run there. accepted (suc i) inputs run there) d e k)
      (replay (machine p) tick.1 (start p tick.0 s)) (replay (machine_of_nodes q) tick.1 (start_of_nodes q tick.0 c))
      (runs.runs tick.1 (start p tick.0 s) (start_of_nodes q tick.0 c) (begin tick.0 s c (accepted 0 tick.0 tick.1 refl) h))

pub graph_keeps : (p : Numbered) (q : Program) → Mirrors p q → Settling p.root → HaveOwnNames p.variables → Keeps p q
graph_keeps p q graph settling own = record {
  begins = begins p q graph;
  starts = begin;
  goes_on = goes_on p q graph settling;
  over_ticks = λ ticks accepted. ticks_alike p q begin (goes_on p q graph settling) ticks accepted (initial p) (initial_of_nodes q) (begins p q graph);
}
  where
    begin : (inputs : Inputs) (s : State) (c : Control) → AreAccepted q inputs → Corresponds p s c
        → Corresponds p (start p inputs s) (start_of_nodes q inputs c)
    begin inputs s c accepted h =
        starts p q graph settling inputs s c
        (subst (λ xs. Fit inputs xs) graph.variables (accepted_fit q inputs (subst (λ xs. HaveOwnNames xs) (sym graph.variables) own) accepted)) h
