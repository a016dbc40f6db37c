-- What the table of each expanded chart has, where aborts are around something.
use Rattle.std.proofs.Common.{◌≡◌, ℕ, ◌+◌, inl, inr, Bool, true, false, Some, []}
use Rattle.std.proofs.Common.{refl, sym, ap, subst, ◌∙◌}
use Rattle.core_charts.specs.declared.features.Features.TheVariants as features
use Rattle.core_charts.specs.Chart.{Chart}
use Rattle.core_charts.specs.Rules.{IsChart}
use Rattle.chart_machine.specs.declared.table.Table.{Table}
use Rattle.chart_machine.specs.Table.{table}
use Rattle.abort_expansion.specs.Flags.{given, one}
use Rattle.core_charts.specs.Aborts.{has_strong, has_weak}
use Rattle.abort_expansion.specs.Expansion.{expanded}
use Rattle.abort_expansion_laws.specs.CoreRows.{own, Images}
use Rattle.abort_expansion_laws.proofs.InsideLeaves.{AloneRows}
use Rattle.abort_expansion_laws.proofs.Walked.{World, FlagsFit}
use Rattle.abort_expansion_laws.proofs.WalkedWhole.{world}
use Rattle.abort_expansion_laws.proofs.RowsOfCharts as whole
use Rattle.abort_expansion_laws.proofs.MoreRows.{alone, simple_alone, behind_alone, no_strong}
use Rattle.abort_expansion_laws.proofs.OpenedRows.{ForkRows}
use Rattle.abort_expansion_laws.proofs.OpenedInside.{opened_elsewhere}
use Rattle.abort_expansion_laws.proofs.TickStarts.{StartRows}
use Rattle.abort_expansion_laws.proofs.LocalVariables.{added_are_local}
use Rattle.abort_expansion_laws.proofs.LaterTicks.{woken_related, chart_has_begun, core_has_begun}
use Rattle.abort_expansion_laws.specs.Stages.{Entry, NoneReached}
use Rattle.abort_expansion_laws.specs.CoreRows.{pair}
use Rattle.abort_expansion_laws.proofs.Segments.{Segment}
use Rattle.abort_expansion_laws.proofs.StageReached.{Stage}
use Rattle.abort_expansion_laws.proofs.Supplying.{climbs_fewer}
use Rattle.abort_expansion_laws.proofs.Owed.{Resting}
use Rattle.abort_expansion_laws.specs.Related.{Each, Related}
use Rattle.abort_expansion_laws.proofs.WokenConfigurations.{IsLocal}
use Rattle.chart_machine.specs.declared.standing.Configuration.{Configuration}
use Rattle.chart_machine.specs.Machine.{machine, start}
use Rattle.sc_graph.specs.Tick.{Inputs}

given_there : (b : Bool) (x y : ℕ) → given b x ≡ Some y → b ≡ true
given_there true x y e = refl
given_there false x y e = absurd cc

module _ (c : Chart) (rules : IsChart features.Extended c) (core_rules : IsChart features.Core (expanded c)) where
  abbrev k : Table
  k = table c

  abbrev core : Table
  core = table (expanded c)

  abbrev w : World
  w = world c rules

  abbrev i : Images
  i = whole.i c rules core_rules

  pub alone_rows : AloneRows k core i
  alone_rows =
      record {
        no_strong = no_strong c rules core_rules;
        simple_alone = simple_alone c rules core_rules;
        behind_alone = behind_alone c rules core_rules;
        watching_alone = λ s here has.
            alone c rules core_rules (i.watching_of s) (ap (λ z. z.regions) ((whole.rows_of_chart c rules core_rules).watcher s here has).row);
      }

  pub fork_rows : ForkRows k core i
  fork_rows =
      record {
        opens_inside = λ s t zs here super out.
            opened_elsewhere features.Core (expanded c) core_rules (i.main_of s) t zs (whole.main_there c rules core_rules s here) out;
      }

  -- ---- what a tick begins with

  pub start_rows : StartRows k core i (whole.rows_of_chart c rules core_rules)
  start_rows =
      record {
        strong_for = λ s x e.
            let fits : FlagsFit w s = whole.flag_from c rules core_rules s x (inl e) in
            given_there (has_strong (own k s)) fits.first x (sym (ap (λ z. z.strong) fits.are) ∙ e);
        weak_for = λ s x e.
            let fits : FlagsFit w s = whole.flag_from c rules core_rules s x (inr (inl e)) in
            given_there (has_weak (own k s)) (fits.first + one (has_strong (own k s))) x (sym (ap (λ z. z.weak) fits.are) ∙ e);
        super_there = whole.super_there c rules core_rules;
        locals = subst (Each IsLocal) (sym (whole.added_is c rules core_rules)) (added_are_local c rules);
      }

-- each tick of a chart but the first begins with related configurations, without a step of the core
module _ (c : Chart) (rules : IsChart features.Extended c) (core_rules : IsChart features.Core (expanded c))
    (before core_before : Configuration) (rests : Resting (table c) (table (expanded c)) (whole.i c rules core_rules) before core_before)
    (inputs : Inputs) where
  abbrev theirs : Images
  theirs = whole.i c rules core_rules

  pub started_related : Related (table c) (table (expanded c)) theirs (start (table c) inputs before) (start (table (expanded c)) inputs core_before)
  started_related =
      rw (
        chart_has_begun (table c) (table (expanded c)) theirs before core_before rests,
        core_has_begun (table c) (table (expanded c)) theirs before core_before rests,
      )
      (woken_related (table c) (table (expanded c)) theirs (whole.rows_of_chart c rules core_rules) (alone_rows c rules core_rules)
      (whole.tree c rules core_rules).nested (start_rows c rules core_rules) before core_before rests inputs)

  pub later_ticks_begin : (counts : ℕ → Bool) (written_at : ℕ → ℕ) (Told : Configuration → Entry → Type 0) →
      Segment (machine (table (expanded c)))
      (pair (table c) (table (expanded c)) theirs (whole.rows_of_chart c rules core_rules) (whole.tree c rules core_rules).nested counts written_at) Told
      (start (table (expanded c)) inputs core_before) NoneReached (Stage (table c) theirs.thread_of (start (table c) inputs before)) []
      (Related (table c) (table (expanded c)) theirs (start (table c) inputs before))
  later_ticks_begin counts written_at Told =
      record {
        log = [];
        last = start (table (expanded c)) inputs core_before;
        follows = refl;
        charted = refl;
        fits = tt;
        climbs = λ rest climbs.
            climbs_fewer
            (pair (table c) (table (expanded c)) theirs (whole.rows_of_chart c rules core_rules) (whole.tree c rules core_rules).nested counts written_at)
            (Stage (table c) theirs.thread_of (start (table c) inputs before) (start (table (expanded c)) inputs core_before)) NoneReached rest
            (λ h s none. absurd none) climbs;
        reaches = started_related;
      }
