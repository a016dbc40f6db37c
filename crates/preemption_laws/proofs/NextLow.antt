-- Behind a step of a region that is in no opened superstate, or leaves one, all lines are within the new cap.
use Rattle.std.proofs.Common.{◌≡◌, ◌≢◌, ℕ, ◌≤◌, Bool, true, false, ⊎_elim, min, Some, List, Contains, refl, sym, subst, ◌∙◌}
use Rattle.sc_values.specs.Access.{no_access}
use Rattle.sc_values.specs.Runs.{replay}
use Rattle.sc_graph.specs.declared.control.Control.{Control}
use Rattle.sc_graph.specs.declared.tables.Tables.{Tables}
use Rattle.sc_graph.specs.Machine.{machine}
use Rattle.sc_graph.specs.Program.{Program}
use Rattle.sc_graph.specs.Tick.{IsConfiguration}
use Rattle.sc_graph.specs.Valid.{IsValid}
use Rattle.tick_laws.proofs.WithinTick.{laws_within_tick}
use Rattle.core_charts.specs.declared.features.Features.TheVariants as features
use Rattle.core_charts.specs.Chart.{Chart}
use Rattle.core_charts.specs.Rules.{IsChart}
use Rattle.chart_machine.specs.declared.standing.Configuration.{Configuration}
use Rattle.chart_machine.specs.declared.table.Table.{Table}
use Rattle.chart_machine.specs.Table.{table}
use Rattle.chart_machine.specs.Turns.{LiesIn, itself, standing_of, is_enabled}
use Rattle.chart_machine.specs.Steps.{access_of, step}
use Rattle.scl.specs.declared.program.Scl.{Scl}
use Rattle.scl.specs.Numbering.{numbered}
use Rattle.scl_graph.specs.Graph.{program_of}
use Rattle.abort_expansion.specs.Expansion.{expanded}
use Rattle.chart_lowering_laws.specs.Laws.{IsLowering}
use Rattle.abort_expansion_laws.specs.CoreRows.{Images}
use Rattle.abort_expansion_laws.proofs.TicksOfCharts as ticks
use Rattle.preemption_laws.specs.CappedRanks.{capped}
use Rattle.preemption_laws.proofs.ApartInCore.{LiesThere, thread_there, monitor_there}
use Rattle.preemption_laws.proofs.BelowInGraph.{below_there}
use Rattle.preemption_laws.proofs.CappedSteps.{IsCapped, is_idle, busy_is, line_kept, taker_low}
use Rattle.preemption_laws.proofs.ChartOrder.{step_priority}
use Rattle.preemption_laws.proofs.CoreTurns.{taker, TakenBy, by_thread, by_monitor, by_nobody, taken_by}
use Rattle.preemption_laws.proofs.LinesAhead.{LowAhead, LowOnceStepped, ahead_on, ahead_within, low_once_stepped, once_stepped_on, once_stepped_both}
use Rattle.preemption_laws.proofs.LinesAhead.{once_stepped_less, stepped_ahead}
use Rattle.preemption_laws.proofs.OthersLow.{RanksWithin, others_low}
use Rattle.preemption_laws.proofs.RunsComplete.{turn_of}
use Rattle.preemption_laws.proofs.StepsInside.{IsWithin, LiesElsewhere, stays}
use Rattle.preemption_laws.proofs.StillWaits.{lies_or_not, elsewhere_from, turn_still}

module _ (c : Chart) (rules : IsChart features.Extended c) (core_rules : IsChart features.Core (expanded c)) (p : Scl) (q : Tables)
    (low : IsLowering (expanded c) p) (valid : IsValid (program_of (numbered p)) q) where
  abbrev k : Table
  k = table c

  abbrev i : Images
  i = ticks.i c rules core_rules

  abbrev G : Program
  G = program_of (numbered p)

  abbrev priority : Configuration → Control → ℕ → ℕ
  priority now m t = step_priority c rules core_rules p q low valid now m t

  module _ (now d : Configuration) (m : Control) (most least : ℕ) (known : IsCapped c rules core_rules p q low valid now d m most)
      (ranks : RanksWithin c rules core_rules p q low valid now m most least) where
    -- ---- who has the turn of an opened superstate's tests

    module _ (t : ℕ) (on : is_enabled k now t ≡ true) where
      taker_lies : TakenBy c rules core_rules now d t → access_of (standing_of now t) ≢ no_access →
          LiesThere c rules core_rules t (taker c rules core_rules (standing_of now t) t)
      taker_lies (by_nobody none) some = absurd (some none)
      taker_lies (by_thread is turn) some = subst (LiesThere c rules core_rules t) (sym is) (thread_there c rules core_rules t)
      taker_lies (by_monitor o o_there held has is turn) some =
          subst (LiesThere c rules core_rules t) (sym is) (monitor_there c rules core_rules o t o_there has held)

      -- once its thread leaves the join it comes to no greater priority than who takes the step has
      by_taker : access_of (standing_of now t) ≢ no_access → LowOnceStepped G q (priority now m t) (i.thread_of t) m
      by_taker some =
          low_once_stepped G q valid m known.alike.is_configuration (priority now m t) (taker c rules core_rules (standing_of now t) t) (i.thread_of t)
          (below_there c rules core_rules p q low valid t (taker c rules core_rules (standing_of now t) t) t
          (taker_lies (taken_by c rules core_rules now d known.all.related known.all.ready known.all.owns t on) some) (itself refl))
          (taker_low c rules core_rules p q low valid now d m most known t on some)

      pub join_kept : IsWithin (standing_of now t) → LowOnceStepped G q least (i.thread_of t) m
      join_kept waits = by (is_idle (access_of (standing_of now t))) refl (ranks t on)
        where
          by : (b : Bool) → is_idle (access_of (standing_of now t)) ≡ b → capped b most (priority now m t) ≤ least →
              LowOnceStepped G q least (i.thread_of t) m
          by true idle below = once_stepped_less G q (i.thread_of t) m most least below (known.joins t on waits)
          by false busy below =
              once_stepped_less G q (i.thread_of t) m (min (priority now m t) most) least below
              (once_stepped_both G q (priority now m t) (i.thread_of t) m most (by_taker (busy_is (access_of (standing_of now t)) busy))
              (known.joins t on waits))

    -- ---- a step of region r

    module _ (next : Configuration) (n : Control) (r : ℕ) (run : List ℕ) (steps : step k r now ≡ Some next) (leads : replay (machine G) run m ≡ Some n) where
      on_r : is_enabled k now r ≡ true
      on_r = turn_of k now next r steps

      -- of one that is in no opened superstate, or leaves it: what its thread does next is within the new cap
      pub ahead_free : ¬ IsWithin (standing_of now r) → LowAhead G q least (i.thread_of r) n
      ahead_free out =
          ahead_on G q least (i.thread_of r) m run n leads
          (line_kept c rules core_rules p q low valid now d m most known r on_r least out (ranks r on_r))

      pub ahead_behind : IsWithin (standing_of now r) → Contains run (i.thread_of r) → LowAhead G q least (i.thread_of r) n
      ahead_behind waits has = stepped_ahead G q least (i.thread_of r) m run n leads has (join_kept r on_r waits)

    module _ (next : Configuration) (n : Control) (r : ℕ) (run : List ℕ) (steps : step k r now ≡ Some next) (leads : replay (machine G) run m ≡ Some n)
        (ahead : LowAhead G q least (i.thread_of r) n) where
      inner_low : (t : ℕ) → LiesIn k t r → LowAhead G q least (i.thread_of t) n
      inner_low t inner =
          ahead_within G q least (i.thread_of r) (i.thread_of t) n
          (below_there c rules core_rules p q low valid t (i.thread_of t) r (thread_there c rules core_rules t) inner) ahead

      pub lines_next : (t : ℕ) → is_enabled k next t ≡ true → ¬ IsWithin (standing_of next t) → LowAhead G q least (i.thread_of t) n
      lines_next t on free =
          ⊎_elim (λ inner. inner_low t inner)
          (λ none. others_low c rules core_rules p q low valid now d next m n most least r run known ranks steps leads t
          (elsewhere_from c rules core_rules r t none) on free)
          (lies_or_not c rules core_rules t r)

      fine : IsConfiguration G n
      fine = (laws_within_tick G q valid).kept run m n known.alike.is_configuration leads

      pub joins_next : (t : ℕ) → is_enabled k next t ≡ true → IsWithin (standing_of next t) → LowOnceStepped G q least (i.thread_of t) n
      joins_next t on waits =
          ⊎_elim (λ inner more o follows has. inner_low t inner more o follows) elsewhere (lies_or_not c rules core_rules t r)
        where
          around_r : LiesIn k r t → LowOnceStepped G q least (i.thread_of t) n
          around_r outer =
              low_once_stepped G q valid n fine least (i.thread_of r) (i.thread_of t)
              (below_there c rules core_rules p q low valid r (i.thread_of r) t (thread_there c rules core_rules r) outer) (inner_low r (itself refl))

          kept : LiesElsewhere c rules core_rules r t → ¬ LiesIn k r t → LowOnceStepped G q least (i.thread_of t) n
          kept far apart =
              once_stepped_on G q least (i.thread_of t) m run n leads
              (join_kept t (sym (turn_still c rules core_rules now d next r known.all.related known.all.owns steps t far apart) ∙ on)
              (subst IsWithin (stays c rules core_rules now d next r known.all.related known.all.owns steps t far) waits))

          elsewhere : ¬ LiesIn k t r → LowOnceStepped G q least (i.thread_of t) n
          elsewhere none = ⊎_elim around_r (kept (elsewhere_from c rules core_rules r t none)) (lies_or_not c rules core_rules r t)
