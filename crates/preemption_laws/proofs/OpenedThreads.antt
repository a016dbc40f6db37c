-- Where a region stands in an opened superstate, and tests it, its thread waits at the join of that.
use Rattle.std.proofs.Common.{◌≡◌, ℕ, true, false, not, ◌&&◌, ⊎_elim, List, [], ◌∷◌, map, sym, ap, subst, ◌∙◌}
use Rattle.std.specs.List.{list_all}
use Rattle.std.proofs.lemmas.Bool.{or_right, and_parts, not-true}
use Rattle.sc_graph.specs.declared.control.Control.{Control}
use Rattle.sc_graph.specs.declared.control.Status.TheVariants as status
use Rattle.sc_graph.specs.declared.tables.Tables.{Tables}
use Rattle.sc_graph.specs.Control.{status_of}
use Rattle.sc_graph.specs.Valid.{IsValid}
use Rattle.core_charts.specs.declared.features.Features.TheVariants as features
use Rattle.core_charts.specs.declared.region.Transition.{Transition}
use Rattle.core_charts.specs.Aborts.{has_aborts, has_strong, has_weak}
use Rattle.core_charts.specs.Chart.{Chart}
use Rattle.core_charts.specs.Rules.{IsChart}
use Rattle.core_charts.specs.Tests.{is_join, is_weak}
use Rattle.chart_machine.specs.declared.standing.Standing.{Standing}
use Rattle.chart_machine.specs.declared.standing.Standing.TheVariants as at
use Rattle.chart_machine.specs.declared.standing.Configuration.{Configuration}
use Rattle.chart_machine.specs.declared.table.Table.{Table}
use Rattle.chart_machine.specs.Table.{table, state_at}
use Rattle.chart_machine.specs.Turns.{standing_of, has_ended}
use Rattle.scl.specs.declared.program.Scl.{Scl}
use Rattle.scl.specs.Numbering.{numbered}
use Rattle.scl_graph.specs.Graph.{program_of}
use Rattle.abort_expansion.specs.Expansion.{expanded}
use Rattle.abort_expansion.specs.Flags.{has_join}
use Rattle.abort_expansion.specs.Superstates.{stays}
use Rattle.abort_expansion.specs.Transitions.{led}
use Rattle.chart_lowering_laws.specs.Laws.{IsLowering}
use Rattle.chart_machine_laws.specs.Tree.{IsThere, holder}
use Rattle.compiled_charts_laws.proofs.AtJoins as at_joins
use Rattle.abort_expansion_laws.specs.CoreRows.{own, flags_around, Images, joins}
use Rattle.abort_expansion_laws.specs.Related.{Stands, outside, ended, left, trying, acting, entering, guarding, staying, within, behind, is_behind}
use Rattle.abort_expansion_laws.proofs.CasesFollowed.{has_from}
use Rattle.abort_expansion_laws.proofs.OwnTests.{IsOwn, IsClosing}
use Rattle.abort_expansion_laws.proofs.TicksOfCharts as ticks
use Rattle.preemption_laws.proofs.ChartOrder.{AllAt}

module _ (c : Chart) (rules : IsChart features.Extended c) (core_rules : IsChart features.Core (expanded c)) where
  abbrev k : Table
  k = table c

  abbrev core : Table
  core = table (expanded c)

  abbrev i : Images
  i = ticks.i c rules core_rules

  -- with a test left the fork of its core is not over
  not_behind : (now : Configuration) (s : ℕ) (t : Transition) → IsClosing k s t → is_behind k core i now s ≡ true → ⊥
  not_behind now s t closes over = ⊎_elim weak join closes.1
    where
      parts : (not (stays (flags_around k core i (holder k s)) (own k s)) ≡ true)
          × ((not (has_aborts (own k s)) && (not (has_join (own k s)) && list_all (λ r. has_ended (standing_of now r)) (state_at k s).regions)) ≡ true)
      parts = and_parts (not (stays (flags_around k core i (holder k s)) (own k s))) _ over

      more : (not (has_aborts (own k s)) ≡ true)
          × ((not (has_join (own k s)) && list_all (λ r. has_ended (standing_of now r)) (state_at k s).regions) ≡ true)
      more = and_parts (not (has_aborts (own k s))) _ parts.1

      weak : is_weak t.kind ≡ true → ⊥
      weak is =
          let has : has_aborts (own k s) ≡ true =
          or_right (has_strong (own k s)) (has_weak (own k s)) (has_from (λ z. is_weak z.kind) (own k s) t closes.0 is) in
          let none : has_aborts (own k s) ≡ false = not-true (has_aborts (own k s)) more.0 in
          let wrong : true ≡ false = sym has ∙ none in absurd cc

      join : is_join t.kind ≡ true → ⊥
      join is =
          let has : has_join (own k s) ≡ true = has_from (λ z. is_join z.kind) (own k s) t closes.0 is in
          let none : has_join (own k s) ≡ false = not-true (has_join (own k s)) (and_parts (not (has_join (own k s))) _ more.1).0 in
          let wrong : true ≡ false = sym has ∙ none in absurd cc

  -- so it is in the image of the superstate
  in_image : (now d : Configuration) (r s : ℕ) (t : Transition) (tests : List Transition) → IsClosing k s t → (x y : Standing) → Stands k core i now r x y →
      x ≡ at.Within s (t ∷ tests) → (w : Transition) × (ws : List Transition) × (y ≡ at.Within (i.main_of s) (w ∷ ws))
  in_image now d r s t tests closes _ _ outside e = absurd cc
  in_image now d r s t tests closes _ _ (ended inner) e = absurd cc
  in_image now d r s t tests closes _ _ (left u ss f over) e = absurd cc
  in_image now d r s t tests closes _ _ (trying u others simple held) e = absurd cc
  in_image now d r s t tests closes _ _ (acting u v p f effects lt) e = absurd cc
  in_image now d r s t tests closes _ _ (entering u fork w others super held leads) e = absurd cc
  in_image now d r s t tests closes _ _ (guarding u join w others has held leads) e = absurd cc
  in_image now d r s t tests closes _ _ (staying u others super held stay) e =
      let state : u ≡ s = cc in
      let those : others ≡ t ∷ tests = cc in (
        led (i.places_of r) t,
        map (led (i.places_of r)) tests,
        ap (λ z. at.Within (i.main_of z) (map (led (i.places_of r)) others)) state
            ∙ ap (λ zs. at.Within (i.main_of s) (map (led (i.places_of r)) zs)) those,
      )
  in_image now d r s t tests closes _ _ (within u join others super held stay open_still leads) e =
      let state : u ≡ s = cc in (joins join, [], ap (λ z. at.Within (i.main_of z) (joins join ∷ [])) state)
  in_image now d r s t tests closes _ _ (behind u others super held over) e =
      let state : u ≡ s = cc in absurd (not_behind now s t closes (ap (is_behind k core i now) (sym state) ∙ over))

  -- so in the graph it waits at the join
  module _ (p : Scl) (q : Tables) (low : IsLowering (expanded c) p) (valid : IsValid (program_of (numbered p)) q) where
    pub waits_there : (now d : Configuration) (m : Control) (r s : ℕ) (t : Transition) (tests : List Transition) →
        AllAt c rules core_rules p q low valid now d m → IsThere k r → standing_of now r ≡ at.Within s (t ∷ tests) →
        status_of m (i.thread_of r) ≡ status.Waiting (at_joins.join_of (expanded c) p low (i.main_of s))
    waits_there now d m r s t tests all there was = all.waits (i.thread_of r) (i.main_of s) here.0 here.1 here.2
      where
        here : (w : Transition) × (ws : List Transition) × (standing_of d (i.thread_of r) ≡ at.Within (i.main_of s) (w ∷ ws))
        here =
            in_image now d r s t tests (subst (IsOwn k) was (all.owns r)).0 (standing_of now r) (standing_of d (i.thread_of r))
            (all.related.regions r there) was
