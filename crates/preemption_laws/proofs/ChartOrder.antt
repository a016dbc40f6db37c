-- Of two concurrent steps of a chart the one whose thread in the core chart is at a node of no smaller priority may come first.
use Rattle.std.proofs.Common.{◌≡◌, ℕ, ◌≤◌, true, sym, ap, subst, subst₂}
use Rattle.sc_values.specs.Access.{no_access, MayPrecede}
use Rattle.sc_graph.specs.declared.control.Control.{Control}
use Rattle.sc_graph.specs.declared.tables.Tables.{Tables}
use Rattle.sc_graph.specs.Control.{status_of}
use Rattle.sc_graph.specs.Tables.{priority_of}
use Rattle.sc_graph.specs.Valid.{IsValid}
use Rattle.core_charts.specs.declared.features.Features.TheVariants as features
use Rattle.core_charts.specs.Chart.{Chart}
use Rattle.core_charts.specs.Rules.{IsChart}
use Rattle.chart_machine.specs.declared.standing.Configuration.{Configuration}
use Rattle.chart_machine.specs.declared.table.Table.{Table}
use Rattle.chart_machine.specs.Table.{table}
use Rattle.chart_machine.specs.Turns.{standing_of, is_enabled, ForkedApart}
use Rattle.chart_machine.specs.Steps.{access_of}
use Rattle.scl.specs.declared.program.Scl.{Scl}
use Rattle.scl.specs.Numbering.{numbered}
use Rattle.scl_graph.specs.Graph.{program_of}
use Rattle.abort_expansion.specs.Expansion.{expanded}
use Rattle.chart_lowering_laws.specs.Laws.{IsLowering}
use Rattle.abort_expansion_laws.specs.CoreRows.{Images}
use Rattle.abort_expansion_laws.specs.Related.{Related}
use Rattle.abort_expansion_laws.proofs.OwnTests.{OwnTests}
use Rattle.abort_expansion_laws.proofs.TicksOfCharts as ticks
use Rattle.preemption_laws.specs.StepNodes.{AtTheirNodes}
use Rattle.preemption_laws.proofs.ApartInCore.{LiesThere, thread_there, monitor_there, apart_in_core}
use Rattle.preemption_laws.proofs.CappedRanks.{idle_first}
use Rattle.preemption_laws.proofs.CoreTurns.{HasTurn, taker, TakenBy, by_thread, by_monitor, by_nobody, taken_by}
use Rattle.preemption_laws.proofs.NoResumes.{NoneResumes}
use Rattle.preemption_laws.proofs.CaughtThreads.{GoOn, WaitsAtJoins, AtFirstEffects}
use Rattle.preemption_laws.proofs.StepNodes.{priorities_order_steps}
use Rattle.abort_expansion_laws.proofs.MonitorsReady.{IsReady}
use Rattle.abort_expansion_laws.proofs.Commuting.{plain_second}

module _ (c : Chart) (rules : IsChart features.Extended c) (core_rules : IsChart features.Core (expanded c)) (p : Scl) (q : Tables)
    (low : IsLowering (expanded c) p) (valid : IsValid (program_of (numbered p)) q) where
  abbrev k : Table
  k = table c

  abbrev core : Table
  core = table (expanded c)

  abbrev i : Images
  i = ticks.i c rules core_rules

  -- a chart, its core chart, and the graph of that, where the threads have come to their nodes
  pub record AllAt (now d : Configuration) (m : Control) : Type 0 where
    pub related : Related k core i now d
    pub ready : (o : ℕ) → IsReady k core i now d o
    pub owns : OwnTests k now
    pub nodes : AtTheirNodes (expanded c) (program_of (numbered p)) d m
    pub goes : GoOn d m
    pub waits : WaitsAtJoins (expanded c) p low d m
    pub firsts : AtFirstEffects (expanded c) p low d m
    pub resumed : NoneResumes (expanded c) p low m

  -- where the thread lies that takes a step
  record TakesThere (now d : Configuration) (t : ℕ) : Type 0 where
    turn : HasTurn c rules core_rules d (taker c rules core_rules (standing_of now t) t) (access_of (standing_of now t))
    lies : LiesThere c rules core_rules t (taker c rules core_rules (standing_of now t) t)

  -- the priority of a region's step
  abbrev pub step_priority : Configuration → Control → ℕ → ℕ
  step_priority now m t = priority_of q (status_of m (taker c rules core_rules (standing_of now t) t))

  module _ (now d next e : Configuration) (m n : Control) (here : AllAt now d m) (there : AllAt next e n) (t u a : ℕ)
      (on : is_enabled k now t ≡ true) (on_too : is_enabled k next u ≡ true) (apart : ForkedApart k t u a)
      (low_priority : step_priority next n u ≤ step_priority now m t) where
    abbrev Goal : Type 0
    Goal = MayPrecede (access_of (standing_of now t)) (access_of (standing_of next u))

    both : TakesThere now d t → TakesThere next e u → Goal
    both x y =
        subst₂ MayPrecede x.turn.does y.turn.does
        (priorities_order_steps (expanded c) p q low valid d e m n here.nodes there.nodes (taker c rules core_rules (standing_of now t) t)
        (taker c rules core_rules (standing_of next u) u) (i.thread_of a) x.turn.on y.turn.on
        (apart_in_core c rules core_rules t u a (taker c rules core_rules (standing_of now t) t) (taker c rules core_rules (standing_of next u) u)
        x.lies y.lies apart) low_priority)

    takes : (now d : Configuration) (t : ℕ) → TakenBy c rules core_rules now d t → (access_of (standing_of now t) ≡ no_access →
        Goal) → (TakesThere now d t → Goal) → Goal
    takes now d t (by_nobody none) idle goes = idle none
    takes now d t (by_thread is turn) idle goes =
        goes (record {
          turn = subst (λ v. HasTurn c rules core_rules d v (access_of (standing_of now t))) (sym is) turn;
          lies = subst (LiesThere c rules core_rules t) (sym is) (thread_there c rules core_rules t);
        })
    takes now d t (by_monitor o o_there held has is turn) idle goes =
        goes (record {
          turn = subst (λ v. HasTurn c rules core_rules d v (access_of (standing_of now t))) (sym is) turn;
          lies = subst (LiesThere c rules core_rules t) (sym is) (monitor_there c rules core_rules o t o_there has held);
        })

    pub in_order : Goal
    in_order =
        takes now d t (taken_by c rules core_rules now d here.related here.ready here.owns t on)
        (λ idle. idle_first (access_of (standing_of now t)) (access_of (standing_of next u)) idle)
        (λ x. takes next e u (taken_by c rules core_rules next e there.related there.ready there.owns u on_too)
        (λ idle. plain_second (access_of (standing_of now t)) (access_of (standing_of next u)) (ap (λ z. z.writes) idle)) (λ y. both x y))
