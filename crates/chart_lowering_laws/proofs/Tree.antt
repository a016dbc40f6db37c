-- The tree of a chart's regions, read off what the walk finds.
use Rattle.std.proofs.Common.{◌≡◌, ℕ, zero, suc, ◌+◌, ◌<◌, ◌≤◌, ◌⊎◌, inl, inr, ⊎_elim, List, [], ◌∷◌, map, length, unwrap_or, Contains, sym, ap, subst, ◌∙◌}
use Rattle.std.proofs.Common.{arith}
use Rattle.std.proofs.lemmas.Option.{slice_get_within}
use Rattle.sc_text.proofs.EachItem.{Each}
use Rattle.core_charts.specs.declared.region.Region.{Region}
use Rattle.core_charts.specs.declared.region.Region.TheViews.{out-State}
use Rattle.core_charts.specs.declared.region.Region.TheFolds.{fold_out-Region}
use Rattle.chart_machine.specs.declared.table.TablePosition.{TablePosition}
use Rattle.chart_machine.specs.declared.table.StateRow.{StateRow}
use Rattle.chart_machine.specs.declared.table.Table.{Table}
use Rattle.chart_machine.specs.Table.{Subtree, state_at, region_at, region_numbers, side_by_side, within}
use Rattle.chart_machine.specs.Table.{behind, subtree_of_region, region_subtree, state_subtree}
use Rattle.scl.specs.Block.{Block}
use Rattle.scl_graph_laws.proofs.Segments.{StandAt, stand_from, stand_first, stand_second}
use Rattle.scl_graph_laws.proofs.Scopes.{KeepsScopes}
use Rattle.chart_lowering_laws.specs.Layout.{InRegion, IsRegionOf, LiesIn, IsTree}
use Rattle.chart_lowering_laws.specs.Marks.{Mark, layout_of, initial_among}
use Rattle.tick_laws.proofs.Lists.{contains_none, contains_cons}
use Rattle.chart_lowering_laws.proofs.Rows.{RegionRowed, open_region}
use Rattle.chart_lowering_laws.proofs.Walking.{StateAt, RegionAt, Found, HeldBy, numbers_from}
use Rattle.chart_lowering_laws.proofs.ReadingOff.{state_holds}
use Rattle.chart_lowering_laws.proofs.Leading.{holder_is}

module _ (k : Table) where
  -- regions side by side have their rows
  pub rows_there : (regions : List Region) → Each RegionRowed regions → (at : TablePosition) (before : ℕ) → at.region ≡ suc before →
      StandAt k.regions before (side_by_side (map subtree_of_region regions) at).regions →
      (q : ℕ) → Contains (region_numbers (map subtree_of_region regions) at.region) q → IsRegionOf k q
  rows_there [] rowed at before follows rows q here = absurd (contains_none q here)
  rows_there (r ∷ regions) rowed at before follows rows q here =
      let p : Subtree = subtree_of_region r in
      let ps : List Subtree = map subtree_of_region regions in
      ⊎_elim
      (λ same. subst (IsRegionOf k) (sym follows ∙ same)
      (first r at before (stand_first k.regions before (p.parts at).regions (side_by_side ps (behind p at)).regions rows)))
      (λ later.
      let wide : length (p.parts at).regions ≡ p.regions = rowed.0.regions at in
      rows_there regions rowed.1 (behind p at) (before + p.regions) (omega (arith, follows))
      (stand_from k.regions (before + length (p.parts at).regions) (before + p.regions) (side_by_side ps (behind p at)).regions (omega (arith, wide))
      (stand_second k.regions before (p.parts at).regions (side_by_side ps (behind p at)).regions rows)) q later)
      (contains_cons at.region q (region_numbers ps (at.region + p.regions)) here)
    where
      first : (r : Region) (at : TablePosition) (before : ℕ) → StandAt k.regions before ((subtree_of_region r).parts at).regions → IsRegionOf k (suc before)
      first r at before rows =
          let opened : StandAt k.regions before ((region_subtree (open_region r)).parts at).regions = subst (λ p. StandAt k.regions before (p.parts at).regions)
          (fold_out-Region Subtree Subtree region_subtree state_subtree r) rows in
          let there : before < length k.regions = slice_get_within k.regions before _ opened.0 in
          (omega arith, omega (arith, there))

  module _ (ms : List Mark) (root : Block) (keeps : KeepsScopes root) (top : List ℕ)
      (found : Found k ms root keeps top 0 (length k.states) 1 (suc (length k.regions))) where
    pub state_found_at : (s : ℕ) → s < length k.states → StateAt k ms root keeps top s
    state_found_at s less = found.states s (omega arith) less

    pub region_found_at : (r : ℕ) → IsRegionOf k r → RegionAt k ms root keeps top r
    region_found_at r is = let some : zero < r = is.0 in found.regions r (omega (arith, some)) is.1

    -- the numbers of a state's regions
    pub numbers_are : (s : ℕ) (x : StateAt k ms root keeps top s) →
        (state_at k s).regions ≡ region_numbers (map subtree_of_region (out-State x.state).regions) x.at.region
    numbers_are s x = subst (λ z. (state_at k z).regions ≡ region_numbers (map subtree_of_region (out-State x.state).regions) x.at.region) x.is
        (ap (λ o. (unwrap_or {T = StateRow} o (state_at (record k { states = [] }) 0)).regions) x.row)

    pub lies_in : (s r : ℕ) → s < length k.states → Contains (state_at k s).regions r → IsRegionOf k r × LiesIn k r s
    lies_in s r less here =
        let x : StateAt k ms root keeps top s = state_found_at s less in
        let own : Contains (region_numbers (map subtree_of_region (out-State x.state).regions) x.at.region) r = subst (λ xs. Contains xs r)
        (numbers_are s x) here in
        let from : x.at.region ≤ r = numbers_from (map subtree_of_region (out-State x.state).regions) x.at.region r own in
        let holder : (state_at k s).holder ≡ x.at.holder = holder_is k ms root keeps top state_found_at s x in
        let above : x.at.holder < x.at.region = x.less in (
          rows_there (out-State x.state).regions x.rowed (within x.at) x.before x.follows x.inside r own,
          record {
            there = less;
            held = here;
            around = state_holds k ms root keeps top s x r here;
            less = subst (λ n. n < r) (sym holder) (omega (arith, from, above));
          },
        )

    pub tree_of : ((r : ℕ) → Contains top r → IsRegionOf k r × ((region_at k r).around ≡ [])) → IsTree k (layout_of k top ms root)
    tree_of tops = record {
      holders = λ s less.
          let x : StateAt k ms root keeps top s = state_found_at s less in
          subst (IsRegionOf k) (sym (holder_is k ms root keeps top state_found_at s x)) x.goes.is_region;
      regions = λ s r less here. lies_in s r less here;
      tops = tops;
      each = λ r is.
          let x : RegionAt k ms root keeps top r = region_found_at r is in
          subst (λ r. (Contains top r × ((region_at k r).around ≡ [])) ⊎ ((s : ℕ) × LiesIn k r s)) x.is
          (⊎_elim
          (λ at_top. inl (at_top, (tops x.at.region at_top).1))
          (λ (held : HeldBy k ms root keeps top x.at.region). inr (held.state, (lies_in held.state x.at.region held.there held.held).1))
          x.held);
      initials = λ r is.
          let x : RegionAt k ms root keeps top r = region_found_at r is in
          subst (λ r. InRegion k r (initial_among ms (region_at k r).states)) x.is x.goes.initial;
    }
