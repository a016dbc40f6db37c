-- What the rows of a core chart read, of each core chart of a chart; and so the law of weak aborts inside of weak ones.
use Rattle.std.proofs.Common.{ℕ}
use Rattle.sc_text.proofs.EachItem.{Each, each_of, each_more}
use Rattle.core_charts.specs.declared.features.Features.TheVariants as features
use Rattle.core_charts.specs.declared.region.Transition.{Transition}
use Rattle.core_charts.specs.Chart.{Chart}
use Rattle.core_charts.specs.Rules.{IsChart}
use Rattle.chart_machine.specs.declared.table.Table.{Table}
use Rattle.chart_machine.specs.Table.{table}
use Rattle.tick_laws.proofs.Lists.{contains_get}
use Rattle.abort_expansion.specs.Expansion.{expanded}
use Rattle.abort_expansion_laws.specs.CoreRows.{own}
use Rattle.preemption_laws.specs.Kept.{ChartsAreKept, CoreChartsDoNoMore}
use Rattle.preemption_laws.proofs.CoreLooks.{core_looks, of_state, effects_read}
use Rattle.preemption_laws.proofs.KnownReads.{CoreReads, ReadsNone, TestsTame}
use Rattle.preemption_laws.proofs.TameTransitions.{Tame}
use Rattle.preemption_laws.proofs.TicksAlike.{chart_is_kept, core_does_no_more}

module _ (c : Chart) (rules : IsChart features.Extended c) (core_rules : IsChart features.Core (expanded c)) where
  abbrev core : Table
  core = table (expanded c)

  fronts : (s : ℕ) → Each (TestsTame c rules core_rules s) (of_state c rules core_rules s).others
  fronts s =
      each_more (Tame c rules core_rules s) (TestsTame c rules core_rules s) (of_state c rules core_rules s).others (λ t is. is.trigger)
      (of_state c rules core_rules s).tame

  effects : (s : ℕ) → Each (λ t. Each (ReadsNone c rules core_rules) t.effects) (own core s)
  effects s =
      each_of (λ (t : Transition). Each (ReadsNone c rules core_rules) t.effects) (own core s)
      (λ n t is.
      each_of (ReadsNone c rules core_rules) t.effects
      (λ m e among. effects_read c rules core_rules s t e (contains_get (own core s) n t is) (contains_get t.effects m e among)))

  pub core_reads : CoreReads c rules core_rules
  unfolding core_looks
  core_reads =
      record {
        known = core_looks c rules core_rules;
        fronts = fronts;
        effects = effects;
        seen_weak = λ s x h. (of_state c rules core_rules s).inside x h;
      }

-- the laws
pub kept : ChartsAreKept
kept c rules image low = chart_is_kept c rules image low (core_reads c rules low.core)

pub does_no_more : CoreChartsDoNoMore
does_no_more c rules image low = core_does_no_more c rules image low (core_reads c rules low.core)
