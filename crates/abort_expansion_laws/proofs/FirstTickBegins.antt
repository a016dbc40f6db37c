-- The first tick of each expanded chart begins: what it enters settles in the core, and then corresponds.
use Rattle.std.proofs.Common.{◌≡◌, ◌≢◌, ℕ, ◌+◌, Option, List, [], ◌∷◌, map, Contains, refl, sym, subst}
use Rattle.sc_values.specs.Access.{Access}
use Rattle.sc_graph.specs.Tick.{Inputs}
use Rattle.core_charts.specs.declared.features.Features.TheVariants as features
use Rattle.core_charts.specs.declared.region.Region.{Region}
use Rattle.core_charts.specs.Chart.{Chart}
use Rattle.core_charts.specs.Rules.{IsChart}
use Rattle.chart_machine.specs.declared.standing.Configuration.{Configuration}
use Rattle.chart_machine.specs.declared.table.Table.{Table}
use Rattle.chart_machine.specs.declared.standing.Standing.TheVariants as at
use Rattle.chart_machine.specs.Table.{table, region_numbers, subtree_of_region}
use Rattle.chart_machine.specs.Turns.{standing_of}
use Rattle.chart_machine.specs.Machine.{machine, initial, start}
use Rattle.abort_expansion.specs.Expansion.{expanded}
use Rattle.chart_machine_laws.specs.Tree.{IsThere, around}
use Rattle.chart_machine_laws.proofs.LyingIn.{head_in}
use Rattle.abort_expansion_laws.specs.Stages.{Entry, Silent, NoneReached}
use Rattle.abort_expansion_laws.specs.CoreRows.{Images, pair}
use Rattle.abort_expansion_laws.specs.Related.{Related}
use Rattle.abort_expansion_laws.specs.StageReached.{Stage}
use Rattle.abort_expansion_laws.proofs.Supplying.{climbs_fewer}
use Rattle.abort_expansion_laws.proofs.Segments.{Segment}
use Rattle.abort_expansion_laws.proofs.Pending.{Sound, Pending, Reached}
use Rattle.abort_expansion_laws.proofs.WalkedWhole.{entered}
use Rattle.abort_expansion_laws.proofs.FlagNumbers.{numbers_once}
use Rattle.abort_expansion_laws.proofs.RowsOfCharts as whole
use Rattle.abort_expansion_laws.proofs.MoreRows.{alone, counter_rows, is_counter}
use Rattle.abort_expansion_laws.proofs.TickRows.{start_rows}
use Rattle.abort_expansion_laws.proofs.ChartsOpened.{entry_rows, unflagged, charts_settle}
use Rattle.abort_expansion_laws.proofs.TopRegions.{tops, top_there}
use Rattle.abort_expansion_laws.proofs.FirstTick.{first_present}
use Rattle.abort_expansion_laws.proofs.FirstTickWaits.{first_sound, first_pending}
use Rattle.abort_expansion_laws.proofs.StillBegun.{HasBegun}
use Rattle.abort_expansion_laws.proofs.FlagStages.{FlagStages}

module _ (c : Chart) (rules : IsChart features.Extended c) (core_rules : IsChart features.Core (expanded c))
    (inputs : Inputs) where
  abbrev k : Table
  k = table c

  abbrev core : Table
  core = table (expanded c)

  abbrev i : Images
  i = whole.i c rules core_rules

  abbrev at_first : Configuration
  at_first = start k inputs (initial k)

  abbrev core_at_first : Configuration
  core_at_first = start core inputs (initial core)

  sound : Sound k core i at_first
  sound =
      first_sound k core i (entry_rows c rules core_rules) (alone c rules core_rules) (counter_rows c rules core_rules).counter_joins
      (unflagged c rules core_rules) (λ s here. (whole.state_fits c rules core_rules s here).region.here) (start_rows c rules core_rules).locals
      (tops c rules) (top_there c rules) (λ r h. numbers_once c.regions 1 r h) (entered c rules) inputs

  pending : Pending k core i at_first 0 core_at_first
  pending =
      first_pending k core i (entry_rows c rules core_rules) (alone c rules core_rules) (counter_rows c rules core_rules).counter_joins
      (unflagged c rules core_rules) (λ s here. (whole.state_fits c rules core_rules s here).region.here) (start_rows c rules core_rules).locals
      (tops c rules) (top_there c rules) (λ r h. numbers_once c.regions 1 r h) (entered c rules) inputs

  module _ (stages : FlagStages c rules core_rules) (Told : Configuration → Entry → Type 0)
      (told : (e : Configuration) (t : ℕ) (stage : Option (ℕ × ℕ)) (a : Access) → Told e (Silent t stage a)) where
    pub first_tick_begins : Segment (machine core)
        (pair k core i (whole.rows_of_chart c rules core_rules) (whole.tree c rules core_rules).nested (is_counter c rules core_rules)
        stages.written_at) Told core_at_first NoneReached (Stage k i.thread_of at_first) [] (Related k core i at_first)
    first_tick_begins =
        let s = charts_settle c rules core_rules stages Told told at_first core_at_first sound pending in
        record {
          log = s.log;
          last = s.last;
          follows = s.follows;
          charted = s.charted;
          fits = s.fits;
          climbs = λ rest climbs.
              climbs_fewer
              (pair k core i (whole.rows_of_chart c rules core_rules) (whole.tree c rules core_rules).nested (is_counter c rules core_rules)
              stages.written_at) (Reached k core i at_first core_at_first) NoneReached _ (λ h n none. absurd none)
              (s.climbs rest climbs);
          reaches = s.reaches;
        }

  -- a region of the chart is entered
  pub first_begun : HasBegun k at_first
  first_begun = (1, its.0, its.1, present)
    where
      by_regions : (regions : List Region) → c.regions ≡ regions → Contains (tops c rules) 1
      by_regions [] none = absurd (rules.some_region none)
      by_regions (r ∷ regions) some = subst (λ zs. Contains (region_numbers (map subtree_of_region zs) 1) 1) (sym some)
          (head_in 1 (region_numbers (map subtree_of_region regions) (1 + (subtree_of_region r).regions)))

      among : Contains (tops c rules) 1
      among = by_regions c.regions refl

      its : IsThere k 1 × (around k 1 ≡ [])
      its = top_there c rules 1 among

      present : standing_of at_first 1 ≢ at.Outside
      present =
          first_present k core i (entry_rows c rules core_rules) (λ s here. (whole.state_fits c rules core_rules s here).region.here) (tops c rules)
          (top_there c rules) (λ r h. numbers_once c.regions 1 r h) (entered c rules) inputs 1 among
