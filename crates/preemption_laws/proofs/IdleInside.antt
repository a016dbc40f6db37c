-- Where a region that tested an opened superstate stands in one with nobody inside who has anything left to do, all lines are within the new cap.
use Rattle.std.proofs.Common.{◌≡◌, ◌≢◌, ℕ, zero, suc, true, false, not, ◌&&◌, ⊎_elim, Some, List, Contains, sym, ap, subst, ◌∙◌}
use Rattle.std.proofs.lemmas.Bool.{and_parts}
use Rattle.sc_values.specs.Runs.{replay}
use Rattle.sc_graph.specs.declared.control.Control.{Control}
use Rattle.sc_graph.specs.declared.tables.Tables.{Tables}
use Rattle.sc_graph.specs.Machine.{machine}
use Rattle.sc_graph.specs.Program.{Program}
use Rattle.sc_graph.specs.Tick.{IsConfiguration}
use Rattle.sc_graph.specs.Threads.{Descends, Below}
use Rattle.sc_graph.specs.Valid.{IsValid}
use Rattle.tick_laws.proofs.Lists.{same_or_not}
use Rattle.tick_laws.proofs.WithinTick.{laws_within_tick}
use Rattle.core_charts.specs.declared.features.Features.TheVariants as features
use Rattle.core_charts.specs.declared.region.Transition.{Transition}
use Rattle.core_charts.specs.Chart.{Chart}
use Rattle.core_charts.specs.Rules.{IsChart}
use Rattle.chart_machine.specs.declared.standing.Standing.{Standing}
use Rattle.chart_machine.specs.declared.standing.Standing.TheVariants as at
use Rattle.chart_machine.specs.declared.standing.Configuration.{Configuration}
use Rattle.chart_machine.specs.declared.table.Table.{Table}
use Rattle.chart_machine.specs.Table.{table}
use Rattle.chart_machine.specs.Turns.{LiesIn, itself, deeper, standing_of, has_work, is_guarded, inside, inside_is_done, is_enabled}
use Rattle.chart_machine.specs.Steps.{step}
use Rattle.scl.specs.declared.program.Scl.{Scl}
use Rattle.scl.specs.Numbering.{numbered}
use Rattle.scl_graph.specs.Graph.{program_of}
use Rattle.abort_expansion.specs.Expansion.{expanded}
use Rattle.chart_lowering_laws.specs.Laws.{IsLowering}
use Rattle.chart_machine_laws.specs.Tree.{IsThere}
use Rattle.chart_machine_laws.proofs.LyingIn.{around, holder}
use Rattle.abort_expansion_laws.specs.CoreRows.{Images, CoreRows}
use Rattle.abort_expansion_laws.specs.Related.{Related, Stands, outside, ended, left, trying, acting, entering, guarding, staying, within, behind}
use Rattle.abort_expansion_laws.specs.Related.{IsInside, guarded, open_inside}
use Rattle.abort_expansion_laws.proofs.KnownVariables.{present_there}
use Rattle.abort_expansion_laws.proofs.StageReached.{inside_in, some_work}
use Rattle.abort_expansion_laws.proofs.TicksOfCharts as ticks
use Rattle.abort_expansion_laws.proofs.Unchanged.{none_among}
use Rattle.preemption_laws.proofs.ApartInCore.{thread_there}
use Rattle.preemption_laws.proofs.BelowInGraph.{below_there}
use Rattle.preemption_laws.proofs.CappedSteps.{IsCapped}
use Rattle.preemption_laws.proofs.ChartOrder.{AllAt}
use Rattle.preemption_laws.proofs.LinesAhead.{LowAhead, LowOnceStepped, once_stepped_on, once_stepped_above}
use Rattle.preemption_laws.proofs.NextLow.{join_kept}
use Rattle.preemption_laws.proofs.OthersLow.{RanksWithin, others_low}
use Rattle.preemption_laws.proofs.RunsComplete.{turn_of}
use Rattle.preemption_laws.proofs.StepsInside.{IsWithin, LiesElsewhere, stays}
use Rattle.preemption_laws.proofs.StillWaits.{lies_or_not, elsewhere_from, turn_still}

module _ (c : Chart) (rules : IsChart features.Extended c) (core_rules : IsChart features.Core (expanded c)) where
  abbrev k : Table
  k = table c

  abbrev core : Table
  core = table (expanded c)

  abbrev i : Images
  i = ticks.i c rules core_rules

  abbrev rows : CoreRows k core i
  rows = ticks.rows c rules core_rules

  -- its thread has not ended
  pub goes_within : (now : Configuration) (r s : ℕ) (tests : List Transition) (x y : Standing) → Stands k core i now r x y → x ≡ at.Within s tests →
      (y ≢ at.Outside) × (y ≢ at.Ended)
  goes_within now r s tests _ _ outside e = absurd cc
  goes_within now r s tests _ _ (ended inner) e = absurd cc
  goes_within now r s tests _ _ (left u ss f over) e = absurd cc
  goes_within now r s tests _ _ (trying u others simple held) e = ((λ h. absurd cc), (λ h. absurd cc))
  goes_within now r s tests _ _ (acting u v p f effects lt) e = ((λ h. absurd cc), (λ h. absurd cc))
  goes_within now r s tests _ _ (entering u fork t others super held leads) e = ((λ h. absurd cc), (λ h. absurd cc))
  goes_within now r s tests _ _ (guarding u join t others has held leads) e = ((λ h. absurd cc), (λ h. absurd cc))
  goes_within now r s tests _ _ (staying u others super held stay) e = ((λ h. absurd cc), (λ h. absurd cc))
  goes_within now r s tests _ _ (within u join others super held stay open_still leads) e = ((λ h. absurd cc), (λ h. absurd cc))
  goes_within now r s tests _ _ (behind u others super held over) e = ((λ h. absurd cc), (λ h. absurd cc))

  one_state : (u s : ℕ) (x : Standing) (tests : List Transition) → IsInside k core i u x → x ≡ at.Within s tests → u ≡ s
  one_state u s _ tests (guarded others) e = absurd cc
  one_state u s _ tests (open_inside others) e = cc

  -- ---- nobody inside has anything left to do

  module _ (next e : Configuration) (r u : ℕ) (left_over : List Transition) (related : Related k core i next e)
      (stands : standing_of next r ≡ at.Within u left_over) (idle : some_work k next u ≡ false) where
    -- nobody deeper inside has a turn
    none_deeper : (z : ℕ) → LiesIn k z r → z ≢ r → is_enabled k next z ≡ true → ⊥
    none_deeper z (itself same) ne turn = ne same
    none_deeper z (deeper v inner held) ne turn =
        let wrong : true ≡ false =
        sym works ∙ none_among (λ w. has_work k next (standing_of next w)) (inside k u) z idle
        (inside_in k u z there (subst (λ w. Contains (around k z) w) state inner)) in absurd cc
      where
        works : has_work k next (standing_of next z) ≡ true
        works = (and_parts (has_work k next (standing_of next z)) (not (is_guarded k next (around k z)) && inside_is_done k next (standing_of next z)) turn).0

        entered : standing_of next z ≢ at.Outside
        entered out = let wrong : true ≡ false = sym works ∙ ap (has_work k next) out in absurd cc

        there : IsThere k z
        there = present_there k core i next e related z entered

        state : v ≡ u
        state =
            one_state v u (standing_of next (holder k v)) left_over (related.enclosed z v there entered inner) (ap (standing_of next) held ∙ stands)

  -- ---- all lines behind it

  module _ (p : Scl) (q : Tables) (low : IsLowering (expanded c) p) (valid : IsValid (program_of (numbered p)) q) where
    abbrev G : Program
    G = program_of (numbered p)

    module _ (now d next e : Configuration) (m n : Control) (most least r : ℕ) (known : IsCapped c rules core_rules p q low valid now d m most)
        (ranks : RanksWithin c rules core_rules p q low valid now m most least) (steps : step k r now ≡ Some next)
        (was_within : IsWithin (standing_of now r)) (run : List ℕ) (leads : replay (machine G) run m ≡ Some n)
        (there : AllAt c rules core_rules p q low valid next e n) (u : ℕ) (left_over : List Transition)
        (stands : standing_of next r ≡ at.Within u left_over) (idle : some_work k next u ≡ false) where
      on_r : is_enabled k now r ≡ true
      on_r = turn_of k now next r steps

      is_within : (x : Standing) → x ≡ at.Within u left_over → IsWithin x
      is_within x same = subst IsWithin (sym same) tt

      pub lines_idle : (t : ℕ) → is_enabled k next t ≡ true → ¬ IsWithin (standing_of next t) → LowAhead G q least (i.thread_of t) n
      lines_idle t on free =
          ⊎_elim (λ inner. absurd (none_deeper next e r u left_over there.related stands idle t inner
          (λ same. free (is_within (standing_of next t) (ap (standing_of next) same ∙ stands))) on))
          (λ none. others_low c rules core_rules p q low valid now d next m n most least r run known ranks steps leads t
          (elsewhere_from c rules core_rules r t none) on free)
          (lies_or_not c rules core_rules t r)

      own_join : LowOnceStepped G q least (i.thread_of r) n
      own_join =
          once_stepped_on G q least (i.thread_of r) m run n leads
          (join_kept c rules core_rules p q low valid now d m most least known ranks r on_r was_within)

      fine : IsConfiguration G n
      fine = (laws_within_tick G q valid).kept run m n known.alike.is_configuration leads

      r_there : IsThere k r
      r_there =
          present_there k core i next e there.related r
          (λ out. let wrong : at.Outside ≡ at.Within u left_over = sym out ∙ stands in absurd cc)

      pub joins_idle : (t : ℕ) → is_enabled k next t ≡ true → IsWithin (standing_of next t) → LowOnceStepped G q least (i.thread_of t) n
      joins_idle t on waits = ⊎_elim inner elsewhere (lies_or_not c rules core_rules t r)
        where
          inner : LiesIn k t r → LowOnceStepped G q least (i.thread_of t) n
          inner lies =
              ⊎_elim (λ same. subst (λ v. LowOnceStepped G q least (i.thread_of v) n) (sym same) own_join)
              (λ ne. absurd (none_deeper next e r u left_over there.related stands idle t lies ne on)) (same_or_not t r)

          around_r : t ≢ r → LiesIn k r t → LowOnceStepped G q least (i.thread_of t) n
          around_r ne outer = by under.generations under.descends
            where
              under : Below G (i.thread_of r) (i.thread_of t)
              under = below_there c rules core_rules p q low valid r (i.thread_of r) t (thread_there c rules core_rules r) outer

              going : (standing_of e (i.thread_of r) ≢ at.Outside) × (standing_of e (i.thread_of r) ≢ at.Ended)
              going =
                  goes_within next r u left_over (standing_of next r) (standing_of e (i.thread_of r)) (there.related.regions r r_there) stands

              by : (g : ℕ) → Descends G g (i.thread_of r) (i.thread_of t) → LowOnceStepped G q least (i.thread_of t) n
              by zero same = absurd (ne (sym (rows.region_once r t same)))
              by (suc g) above =
                  once_stepped_above G q valid n fine least (i.thread_of r) (i.thread_of t) g above (there.goes (i.thread_of r) going.0 going.1) own_join

          kept : LiesElsewhere c rules core_rules r t → ¬ LiesIn k r t → LowOnceStepped G q least (i.thread_of t) n
          kept far apart =
              once_stepped_on G q least (i.thread_of t) m run n leads
              (join_kept c rules core_rules p q low valid now d m most least known ranks t
              (sym (turn_still c rules core_rules now d next r known.all.related known.all.owns steps t far apart) ∙ on)
              (subst IsWithin (stays c rules core_rules now d next r known.all.related known.all.owns steps t far) waits))

          elsewhere : ¬ LiesIn k t r → LowOnceStepped G q least (i.thread_of t) n
          elsewhere none =
              ⊎_elim (around_r (λ same. none (itself same))) (kept (elsewhere_from c rules core_rules r t none)) (lies_or_not c rules core_rules r t)
