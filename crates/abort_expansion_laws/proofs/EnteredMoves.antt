-- What is so of each way to be entered is so of each move of entering a state. So who is entered comes to stand somewhere.
use Rattle.std.proofs.Common.{◌≢◌, ℕ, zero, suc, ◌+◌, Bool, true, false, List, [], ◌∷◌, map, slice_get, unwrap_or, sym, subst}
use Rattle.sc_graph.specs.declared.program.Variable.{Variable}
use Rattle.sc_text.proofs.EachItem.{Each, each_append, each_of, each_map}
use Rattle.core_charts.specs.declared.features.Features.{Features}
use Rattle.core_charts.specs.declared.region.Transition.{Transition}
use Rattle.core_charts.specs.declared.region.Region.{Region}
use Rattle.core_charts.specs.declared.region.State.{State}
use Rattle.core_charts.specs.declared.region.Region.TheOpen.{Region-F, State-F}
use Rattle.core_charts.specs.declared.region.Region.TheViews.{out-Region, out-State}
use Rattle.core_charts.specs.declared.region.Region.TheFolds.{fold_out-Region, fold_out-State}
use Rattle.core_charts.specs.Chart.{Chart}
use Rattle.core_charts.specs.Rules.{IsChart, IsState, IsRegion, AreRegions, depth_limit}
use Rattle.core_charts.specs.Tests.{at_once, strong_aborts, first_closing_tests}
use Rattle.chart_machine.specs.declared.standing.Standing.TheVariants as at
use Rattle.chart_machine.specs.declared.standing.Move.{Move}
use Rattle.chart_machine.specs.Steps.{to}
use Rattle.chart_machine.specs.declared.table.StateRow.{StateRow}
use Rattle.chart_machine.specs.declared.table.SubtreeRows.{SubtreeRows}
use Rattle.chart_machine.specs.declared.table.TablePosition.{TablePosition}
use Rattle.chart_machine.specs.Table.{Subtree, side_by_side, behind, within, come_to, entered_state, is_superstate, state_subtree, rows_of_state_at, StatesRows}
use Rattle.chart_machine.specs.Table.{with_region, past_states, next_behind, in_region, regions_in_initial, inside_region, region_subtree}
use Rattle.chart_machine.specs.Table.{subtree_of_region, subtree_of_state, whole, table, table_of, state_at}

module _ (Fits : Move → Type 0) where
  pub record EnteredBy (row : StateRow) : Type 0 where
    pub entered : Each Fits row.entered
    pub opened : Each Fits row.opened

-- each way to be entered: in a final state, in a simple one, in a superstate, and before its strong aborts
module _ (Fits : Move → Type 0) (ends : (r : ℕ) → Fits (to r at.Ended)) (tries : (r s : ℕ) (ts : List Transition) → Fits (to r (at.Trying s (at_once ts))))
    (stands : (r s : ℕ) (ts : List Transition) → Fits (to r (at.Within s ts)))
    (guards : (r s : ℕ) (ts : List Transition) → Fits (to r (at.Entering s ts))) where
  abbrev Row : StateRow → Type 0
  Row row = EnteredBy Fits row

  abbrev PartsEnter : SubtreeRows → Type 0
  PartsEnter parts = Each Row parts.states × Each Fits parts.entered

  abbrev InnerEnter : StatesRows → Type 0
  InnerEnter inner = Each Row inner.states × Each Fits inner.entered

  abbrev PieceEnters : Subtree → Type 0
  PieceEnters p = (here : TablePosition) → PartsEnter (p.parts here)

  side_enters : (ps : List Subtree) → Each PieceEnters ps → (here : TablePosition) → PartsEnter (side_by_side ps here)
  side_enters [] h here = (tt, tt)
  side_enters (p ∷ ps) h here =
      let first : PartsEnter (p.parts here) = h.0 here in
      let rest : PartsEnter (side_by_side ps (behind p here)) = side_enters ps h.1 (behind p here) in (
        each_append Row (p.parts here).states (side_by_side ps (behind p here)).states first.0 rest.0,
        each_append Fits (p.parts here).entered (side_by_side ps (behind p here)).entered first.1 rest.1,
      )

  come_enters : (r s : ℕ) (strong closing : List Transition) (opened : List Move) → Each Fits opened → Each Fits (come_to r s strong closing opened)
  come_enters r s [] closing opened openings = (stands r s closing, openings)
  come_enters r s (t ∷ strong) closing opened openings = (guards r s (t ∷ strong), tt)

  entered_comes : (final super : Bool) (here : TablePosition) (ts : List Transition) (opened : List Move) → Each Fits opened →
      Each Fits (entered_state final super here ts opened)
  entered_comes true super here ts opened openings = (ends here.holder, tt)
  entered_comes false false here ts opened openings = (tries here.holder here.state ts, tt)
  entered_comes false true here ts opened openings =
      come_enters here.holder here.state (at_once (strong_aborts ts)) (first_closing_tests ts) opened openings

  state_enters : (s : State-F Subtree Subtree) → Each PieceEnters s.regions → PieceEnters (state_subtree s)
  state_enters s inner here =
      let inside : PartsEnter (side_by_side s.regions (within here)) = side_enters s.regions inner (within here) in
      let entered : Each Fits (entered_state s.is_final (is_superstate s.regions) here s.transitions (side_by_side s.regions (within here)).entered) =
      entered_comes s.is_final (is_superstate s.regions) here s.transitions (side_by_side s.regions (within here)).entered inside.1 in
      ((record { entered = entered; opened = inside.1 }, inside.0), entered)

  alone_enters : (b : Bool) (p : Subtree) → PieceEnters p → (next : ℕ) (here : TablePosition) → InnerEnter (rows_of_state_at b p.parts next here)
  alone_enters true p h next here = h here
  alone_enters false p h next here = ((h (with_region next here)).0, tt)

  inner_enters : (ps : List Subtree) → Each PieceEnters ps → (next : ℕ) (here : TablePosition) → InnerEnter (in_region ps next here)
  inner_enters [] h next here = (tt, tt)
  inner_enters (p ∷ ps) h next here =
      let a : StatesRows = rows_of_state_at p.is_initial p.parts next here in
      let b : StatesRows = in_region ps (next_behind p next) (past_states p.states here) in
      let first : InnerEnter a = alone_enters p.is_initial p h.0 next here in
      let rest : InnerEnter b = inner_enters ps h.1 (next_behind p next) (past_states p.states here) in
      (each_append Row a.states b.states first.0 rest.0, each_append Fits a.entered b.entered first.1 rest.1)

  region_enters : (r : Region-F Subtree Subtree) → Each PieceEnters r.states → PieceEnters (region_subtree r)
  region_enters r h here = inner_enters r.states h (suc here.region + regions_in_initial r.states) (inside_region here)

  -- ---- charts

  module _ (variables : List Variable) where
    state_of : (f : Features) (levels count : ℕ) → ((regions : List Region) → AreRegions f variables levels regions →
        Each (λ r. PieceEnters (subtree_of_region r)) regions) →
        (s : State) → IsState f variables (AreRegions f variables levels) count s → PieceEnters (subtree_of_state s)
    state_of f levels count inner s rules =
        subst PieceEnters (sym (fold_out-State Subtree Subtree region_subtree state_subtree s))
        (state_enters (record {
          name = (out-State s).name;
          is_initial = (out-State s).is_initial;
          is_final = (out-State s).is_final;
          regions = map subtree_of_region (out-State s).regions;
          transitions = (out-State s).transitions;
        }) (each_map PieceEnters subtree_of_region (out-State s).regions (inner (out-State s).regions rules.regions)))

    region_of : (f : Features) (levels : ℕ) → ((regions : List Region) → AreRegions f variables levels regions →
        Each (λ r. PieceEnters (subtree_of_region r)) regions) →
        (r : Region) → IsRegion f variables (AreRegions f variables levels) r → PieceEnters (subtree_of_region r)
    region_of f levels inner r rules =
        subst PieceEnters (sym (fold_out-Region Subtree Subtree region_subtree state_subtree r))
        (region_enters (record { name = (out-Region r).name; states = map subtree_of_state (out-Region r).states })
        (each_map PieceEnters subtree_of_state (out-Region r).states
        (each_of (λ s. PieceEnters (subtree_of_state s)) (out-Region r).states (λ i s is. state_of f levels _ inner s (rules.states i s is)))))

    regions_of : (f : Features) (levels : ℕ) (regions : List Region) → AreRegions f variables levels regions →
        Each (λ r. PieceEnters (subtree_of_region r)) regions
    regions_of f zero regions rules = subst (λ rs. Each (λ r. PieceEnters (subtree_of_region r)) rs) (sym rules) tt
    regions_of f (suc levels) regions rules =
        each_of (λ r. PieceEnters (subtree_of_region r)) regions (λ i r is. region_of f levels (regions_of f levels) r (rules.each i r is))

    regions_enter : (f : Features) (levels : ℕ) (regions : List Region) → AreRegions f variables levels regions →
        Each Row (table_of variables regions).states × Each Fits (table_of variables regions).opened
    regions_enter f levels regions rules =
        side_enters (map subtree_of_region regions) (each_map PieceEnters subtree_of_region regions (regions_of f levels regions rules)) whole

  one_of : (rows : List StateRow) (n : ℕ) (d : StateRow) → Each Row rows → Row d → Row (unwrap_or (slice_get rows n) d)
  one_of [] n d h k = k
  one_of (x ∷ xs) zero d h k = h.0
  one_of (x ∷ xs) (suc n) d h k = one_of xs n d h.1 k

  -- of each number, also where it is none of a state
  pub each_entered : (f : Features) (c : Chart) → IsChart f c → (s : ℕ) → EnteredBy Fits (state_at (table c) s)
  each_entered f c rules s =
      one_of (table c).states s (record { holder = 0; regions = []; transitions = []; entered = []; opened = [] })
      (regions_enter c.variables f depth_limit c.regions rules.regions).0
      (record { entered = tt; opened = tt })

  -- and where the chart's own regions are entered
  pub each_opened : (f : Features) (c : Chart) → IsChart f c → Each Fits (table c).opened
  each_opened f c rules = (regions_enter c.variables f depth_limit c.regions rules.regions).1

-- ---- no move of entering leads outside

abbrev pub Comes : Move → Type 0
Comes m = m.standing ≢ at.Outside

abbrev pub Enters : StateRow → Type 0
Enters row = EnteredBy Comes row

pub entering_comes : (f : Features) (c : Chart) → IsChart f c → (s : ℕ) → Enters (state_at (table c) s)
entering_comes f c rules s =
    each_entered Comes (λ r e. absurd cc) (λ r s ts e. absurd cc) (λ r s ts e. absurd cc) (λ r s ts e. absurd cc) f c rules s
