-- The graph of a core chart comes along with a run of it to where the threads are at their nodes; what lies in a region has its thread below.
use Rattle.std.proofs.Common.{◌≡◌, ℕ, ⊎_elim, Some, List, [], ◌∷◌, ◌++◌, Contains, refl, sym, subst, ◌∙◌}
use Rattle.sc_values.specs.Runs.{replay}
use Rattle.sc_graph.specs.declared.control.Control.{Control}
use Rattle.sc_graph.specs.declared.control.Status.TheVariants as status
use Rattle.sc_graph.specs.declared.tables.Tables.{Tables}
use Rattle.sc_graph.specs.Control.{status_of}
use Rattle.sc_graph.specs.Machine as graph
use Rattle.sc_graph.specs.Program.{Program}
use Rattle.sc_graph.specs.Threads.{Below}
use Rattle.sc_graph.specs.Threads as threads
use Rattle.sc_graph.specs.Valid.{IsValid}
use Rattle.tick_laws.proofs.Formed.{valid_formed}
use Rattle.tick_laws.proofs.Kin.{below_self, below_parent}
use Rattle.tick_laws.proofs.RunsOn.{replay_append}
use Rattle.core_charts.specs.Chart.{Chart}
use Rattle.chart_machine.specs.declared.standing.Configuration.{Configuration}
use Rattle.chart_machine.specs.declared.table.Table.{Table}
use Rattle.chart_machine.specs.Machine.{machine}
use Rattle.chart_machine.specs.Table.{table}
use Rattle.chart_machine.specs.Turns.{LiesIn, itself, deeper, ForkedApart}
use Rattle.chart_machine_laws.specs.Tree.{IsNested, around, holder}
use Rattle.chart_machine_laws.proofs.LyingIn.{none_in, head_or_tail}
use Rattle.scl.specs.declared.program.Scl.{Scl}
use Rattle.scl.specs.Numbering.{numbered}
use Rattle.scl_graph.specs.Graph.{program_of}
use Rattle.chart_lowering_laws.specs.Laws.{IsLowering}
use Rattle.chart_lowering_laws.specs.Stands.{Lowered}
use Rattle.compiled_charts_laws.proofs.Stands.{stand_alike}
use Rattle.preemption_laws.specs.StepNodes.{AtTheirNodes, Alike}
use Rattle.preemption_laws.proofs.CaughtThreads.{WaitsAtJoins}
use Rattle.preemption_laws.proofs.GraphRuns.{GoesToNodes, goes_to_nodes, comes_own}

module _ (e : Chart) (p : Scl) (q : Tables) (low : IsLowering e p) (valid : IsValid (program_of (numbered p)) q) where
  abbrev K : Table
  K = table e

  abbrev G : Program
  G = program_of (numbered p)

  lowered : Lowered K G (Alike e p)
  lowered = stand_alike e p low (valid_formed G q valid)

  pub apart_there : (t u a : ℕ) → ForkedApart K t u a → threads.ForkedApart G t u a
  apart_there t u a apart = lowered.apart t u a apart

  module _ (nested : IsNested K) where
    -- each thread is below the one that holds a superstate around it
    below_around : (ss : List ℕ) (t u : ℕ) → around K t ≡ ss → Contains ss u → Below G t (holder K u)
    below_around [] t u is h = absurd (none_in u h)
    below_around (s ∷ ss) t u is h =
        ⊎_elim
        (λ same.
        below_parent G t (holder K s) (holder K u) (lowered.parent t s ss is)
        (subst (λ v. Below G (holder K s) (holder K v)) same (below_self G (holder K s))))
        (λ tail.
        below_parent G t (holder K s) (holder K u) (lowered.parent t s ss is)
        (below_around ss (holder K s) u (sym (nested.upward t s ss is)) tail)) (head_or_tail s u ss h)

    pub below_lying : (t a : ℕ) → LiesIn K t a → Below G t a
    below_lying t a (itself same) = subst (Below G t) same (below_self G t)
    below_lying t a (deeper s inner held) = subst (Below G t) held (below_around (around K t) t s refl inner)

  -- ---- along a run of the core chart

  module _ (run : List ℕ) (c d : Configuration) (m : Control) (alike : Alike e p c m) (runs : replay (machine K) run c ≡ Some d) where
    go : GoesToNodes e p q low valid (λ x y. Unit {0}) (λ x next y t stands steps h. tt) d m
    go = goes_to_nodes e p q low valid (λ x y. Unit {0}) (λ x next y t stands steps h. tt) run c d m alike tt runs

    pub along : List ℕ
    along = go.between.run ++ go.come.nodes.run

    pub there : Control
    there = go.come.nodes.last

    pub leads : replay (graph.machine G) along m ≡ Some there
    unfolding along there
    leads = replay_append G go.between.run go.come.nodes.run m go.between.last go.between.leads ∙ go.come.nodes.leads

    pub alike_there : Alike e p d there
    unfolding there
    alike_there = go.come.nodes.stands

    pub nodes_there : AtTheirNodes e G d there
    unfolding there
    nodes_there = go.come.nodes.nodes

    pub waits_there : WaitsAtJoins e p low d there
    unfolding there
    waits_there = go.come.waits

    -- who waits at a join and takes a step of the run takes one in the graph
    pub own_there : (t j : ℕ) → status_of m t ≡ status.Waiting j → Contains run t → Contains along t
    unfolding along go
    own_there t j waits has =
        comes_own e p q low valid (λ x y. Unit {0}) (λ x next y u stands steps h. tt) t j run c d m alike tt runs waits has
