-- Whoever lies elsewhere than the region that steps, and is in no superstate, stays within the new cap.
use Rattle.std.proofs.Common.{◌≡◌, ℕ, ◌≤◌, true, Some, List, sym, subst, ◌∙◌}
use Rattle.sc_values.specs.Runs.{replay}
use Rattle.sc_graph.specs.declared.control.Control.{Control}
use Rattle.sc_graph.specs.declared.tables.Tables.{Tables}
use Rattle.sc_graph.specs.Machine.{machine}
use Rattle.sc_graph.specs.Program.{Program}
use Rattle.sc_graph.specs.Valid.{IsValid}
use Rattle.core_charts.specs.declared.features.Features.TheVariants as features
use Rattle.core_charts.specs.Chart.{Chart}
use Rattle.core_charts.specs.Rules.{IsChart}
use Rattle.chart_machine.specs.declared.standing.Configuration.{Configuration}
use Rattle.chart_machine.specs.declared.table.Table.{Table}
use Rattle.chart_machine.specs.Table.{table}
use Rattle.chart_machine.specs.Turns.{standing_of, is_enabled}
use Rattle.chart_machine.specs.Steps.{access_of, step}
use Rattle.scl.specs.declared.program.Scl.{Scl}
use Rattle.scl.specs.Numbering.{numbered}
use Rattle.scl_graph.specs.Graph.{program_of}
use Rattle.abort_expansion.specs.Expansion.{expanded}
use Rattle.chart_lowering_laws.specs.Laws.{IsLowering}
use Rattle.abort_expansion_laws.specs.CoreRows.{Images}
use Rattle.abort_expansion_laws.proofs.TicksOfCharts as ticks
use Rattle.preemption_laws.specs.CappedRanks.{capped}
use Rattle.preemption_laws.proofs.CappedSteps.{IsCapped, is_idle, line_kept}
use Rattle.preemption_laws.proofs.ChartOrder.{step_priority}
use Rattle.preemption_laws.proofs.LinesAhead.{LowAhead, ahead_on}
use Rattle.preemption_laws.proofs.StepsInside.{IsWithin, LiesElsewhere, stays, turn_same}

module _ (c : Chart) (rules : IsChart features.Extended c) (core_rules : IsChart features.Core (expanded c)) (p : Scl) (q : Tables)
    (low : IsLowering (expanded c) p) (valid : IsValid (program_of (numbered p)) q) where
  abbrev k : Table
  k = table c

  abbrev i : Images
  i = ticks.i c rules core_rules

  abbrev G : Program
  G = program_of (numbered p)

  -- no rank is greater than this
  abbrev pub RanksWithin : Configuration → Control → ℕ → ℕ → Type 0
  RanksWithin now m cap least =
      (t : ℕ) → is_enabled k now t ≡ true →
      capped (is_idle (access_of (standing_of now t))) cap (step_priority c rules core_rules p q low valid now m t) ≤ least

  pub others_low : (now d next : Configuration) (m n : Control) (cap least r : ℕ) (run : List ℕ) → IsCapped c rules core_rules p q low valid now d m cap →
      RanksWithin now m cap least → step k r now ≡ Some next → replay (machine G) run m ≡ Some n → (t : ℕ) → LiesElsewhere c rules core_rules r t →
      is_enabled k next t ≡ true → ¬ IsWithin (standing_of next t) → LowAhead G q least (i.thread_of t) n
  others_low now d next m n cap least r run known ranks steps leads t far on out =
      ahead_on G q least (i.thread_of t) m run n leads (line_kept c rules core_rules p q low valid now d m cap known t was_on least was_out (ranks t was_on))
    where
      same : standing_of next t ≡ standing_of now t
      same = stays c rules core_rules now d next r known.all.related known.all.owns steps t far

      was_out : ¬ IsWithin (standing_of now t)
      was_out h = out (subst IsWithin (sym same) h)

      was_on : is_enabled k now t ≡ true
      was_on = sym (turn_same c rules core_rules now d next r known.all.related known.all.owns steps t far was_out) ∙ on
