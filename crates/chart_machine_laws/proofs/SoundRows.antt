-- The rows of a chart's table: each test has a trigger of truth values, and each effect gives a value of its variable's kind.
use Rattle.std.proofs.Common.{◌≡◌, ◌≢◌, ℕ, zero, suc, ◌+◌, Bool, true, false, Some, List, [], ◌∷◌, map, slice_get, unwrap_or, sym, subst}
use Rattle.sc_values.specs.declared.expression.Expr.{Expr}
use Rattle.sc_values.specs.declared.value.Kind.TheVariants as of_kind
use Rattle.sc_graph.specs.declared.program.Variable.{Variable}
use Rattle.sc_text.specs.Parts.{IsExpression}
use Rattle.sc_text.proofs.EachItem.{Each, each_append, each_of, each_filter, each_map}
use Rattle.core_charts.specs.declared.features.Features.{Features}
use Rattle.core_charts.specs.declared.region.Transition.{Transition}
use Rattle.core_charts.specs.declared.region.Region.{Region}
use Rattle.core_charts.specs.declared.region.State.{State}
use Rattle.core_charts.specs.declared.region.Region.TheOpen.{Region-F, State-F}
use Rattle.core_charts.specs.declared.region.Region.TheViews.{out-Region, out-State}
use Rattle.core_charts.specs.declared.region.Region.TheFolds.{fold_out-Region, fold_out-State}
use Rattle.core_charts.specs.Rules.{kinds_of, IsEffect, IsTransition, IsState, IsRegion, AreRegions}
use Rattle.core_charts.specs.Tests.{is_strong, is_weak, is_join, at_once, strong_aborts, weak_aborts, terminations, closing_tests, first_closing_tests}
use Rattle.chart_machine.specs.declared.standing.Standing.{Standing}
use Rattle.chart_machine.specs.declared.standing.Standing.TheVariants as at
use Rattle.chart_machine.specs.declared.standing.Move.{Move}
use Rattle.chart_machine.specs.declared.table.StateRow.{StateRow}
use Rattle.chart_machine.specs.declared.table.SubtreeRows.{SubtreeRows}
use Rattle.chart_machine.specs.declared.table.Table.{Table}
use Rattle.chart_machine.specs.declared.table.TablePosition.{TablePosition}
use Rattle.chart_machine.specs.Table.{Subtree, side_by_side, behind, within, come_to, entered_state, is_superstate, state_subtree, rows_of_state_at, StatesRows}
use Rattle.chart_machine.specs.Table.{with_region, past_states, next_behind, in_region, regions_in_initial, inside_region, region_subtree}
use Rattle.chart_machine.specs.Table.{subtree_of_region, subtree_of_state, whole, table_of, state_at}

each_or : {X : Type 0} (P : X → Type 0) (xs : List X) (i : ℕ) (d : X) → Each P xs → P d → P (unwrap_or (slice_get xs i) d)
each_or P [] i d h k = k
each_or P (x ∷ xs) zero d h k = h.0
each_or P (x ∷ xs) (suc i) d h k = each_or P xs i d h.1 k

module _ (variables : List Variable) where
  pub record SoundTest (t : Transition) : Type 0 where
    pub trigger : (e : Expr) → t.trigger ≡ Some e → IsExpression (kinds_of variables) of_kind.Bool e
    pub effects : Each (IsEffect variables) t.effects

  abbrev pub SoundStanding : Standing → Type 0
  SoundStanding at.Outside = Unit {0}
  SoundStanding at.Ended = Unit {0}
  SoundStanding (at.Trying s tests) = Each SoundTest tests
  SoundStanding (at.Entering s tests) = Each SoundTest tests × (tests ≢ [])
  SoundStanding (at.Guarding s tests) = Each SoundTest tests × (tests ≢ [])
  SoundStanding (at.Within s tests) = Each SoundTest tests
  SoundStanding (at.Acting s effects target) = Each (IsEffect variables) effects × (effects ≢ [])

  abbrev pub SoundMove : Move → Type 0
  SoundMove m = SoundStanding m.standing

  pub record SoundRow (row : StateRow) : Type 0 where
    pub transitions : Each SoundTest row.transitions
    pub entered : Each SoundMove row.entered
    pub opened : Each SoundMove row.opened

  -- ---- tests

  pub strong_sound : (ts : List Transition) → Each SoundTest ts → Each SoundTest (strong_aborts ts)
  strong_sound ts h = each_filter SoundTest (λ t. is_strong t.kind) ts h

  pub at_once_sound : (ts : List Transition) → Each SoundTest ts → Each SoundTest (at_once ts)
  at_once_sound ts h = each_filter SoundTest (λ t. t.immediate) ts h

  pub closing_sound : (ts : List Transition) → Each SoundTest ts → Each SoundTest (closing_tests ts)
  closing_sound ts h =
      each_append SoundTest (weak_aborts ts) (terminations ts) (each_filter SoundTest (λ t. is_weak t.kind) ts h) (each_filter SoundTest (λ t. is_join
      t.kind) ts h)

  pub first_closing_sound : (ts : List Transition) → Each SoundTest ts → Each SoundTest (first_closing_tests ts)
  first_closing_sound ts h =
      each_append SoundTest (at_once (weak_aborts ts)) (terminations ts)
      (at_once_sound (weak_aborts ts) (each_filter SoundTest (λ t. is_weak t.kind) ts h)) (each_filter SoundTest (λ t. is_join t.kind) ts h)

  -- ---- pieces

  abbrev SoundParts : SubtreeRows → Type 0
  SoundParts parts = Each SoundRow parts.states × Each SoundMove parts.entered

  abbrev SoundInner : StatesRows → Type 0
  SoundInner inner = Each SoundRow inner.states × Each SoundMove inner.entered

  abbrev SoundSubtree : Subtree → Type 0
  SoundSubtree p = (at : TablePosition) → SoundParts (p.parts at)

  side_sound : (ps : List Subtree) → Each SoundSubtree ps → (at : TablePosition) → SoundParts (side_by_side ps at)
  side_sound [] h at = (tt, tt)
  side_sound (p ∷ ps) h at =
      let first : SoundParts (p.parts at) = h.0 at in
      let rest : SoundParts (side_by_side ps (behind p at)) = side_sound ps h.1 (behind p at) in (
        each_append SoundRow (p.parts at).states (side_by_side ps (behind p at)).states first.0 rest.0,
        each_append SoundMove (p.parts at).entered (side_by_side ps (behind p at)).entered first.1 rest.1,
      )

  come_sound : (r s : ℕ) (strong closing : List Transition) (opened : List Move) → Each SoundTest strong → Each SoundTest closing → Each SoundMove opened →
      Each SoundMove (come_to r s strong closing opened)
  come_sound r s [] closing opened strongs closings openings = (closings, openings)
  come_sound r s (t ∷ strong) closing opened strongs closings openings = ((strongs, λ none. absurd cc), tt)

  entered_sound : (final super : Bool) (here : TablePosition) (ts : List Transition) (opened : List Move) → Each SoundTest ts → Each SoundMove opened →
      Each SoundMove (entered_state final super here ts opened)
  entered_sound true super here ts opened tests openings = (tt, tt)
  entered_sound false false here ts opened tests openings = (at_once_sound ts tests, tt)
  entered_sound false true here ts opened tests openings =
      come_sound here.holder here.state (at_once (strong_aborts ts)) (first_closing_tests ts) opened (at_once_sound (strong_aborts ts) (strong_sound ts tests))
      (first_closing_sound ts tests) openings

  state_sound : (s : State-F Subtree Subtree) → Each SoundTest s.transitions → Each SoundSubtree s.regions → SoundSubtree (state_subtree s)
  state_sound s tests inner here =
      let inside : SoundParts (side_by_side s.regions (within here)) = side_sound s.regions inner (within here) in
      let entered : Each SoundMove (entered_state s.is_final (is_superstate s.regions) here s.transitions (side_by_side s.regions (within here)).entered) =
      entered_sound s.is_final (is_superstate s.regions) here s.transitions (side_by_side s.regions (within here)).entered tests inside.1 in
      ((record { transitions = tests; entered = entered; opened = inside.1 }, inside.0), entered)

  alone_sound : (b : Bool) (p : Subtree) → SoundSubtree p → (next : ℕ) (here : TablePosition) → SoundInner (rows_of_state_at b p.parts next here)
  alone_sound true p h next here = h here
  alone_sound false p h next here = ((h (with_region next here)).0, tt)

  inner_sound : (ps : List Subtree) → Each SoundSubtree ps → (next : ℕ) (here : TablePosition) → SoundInner (in_region ps next here)
  inner_sound [] h next here = (tt, tt)
  inner_sound (p ∷ ps) h next here =
      let a : StatesRows = rows_of_state_at p.is_initial p.parts next here in
      let b : StatesRows = in_region ps (next_behind p next) (past_states p.states here) in
      let first : SoundInner a = alone_sound p.is_initial p h.0 next here in
      let rest : SoundInner b = inner_sound ps h.1 (next_behind p next) (past_states p.states here) in
      (each_append SoundRow a.states b.states first.0 rest.0, each_append SoundMove a.entered b.entered first.1 rest.1)

  region_sound : (r : Region-F Subtree Subtree) → Each SoundSubtree r.states → SoundSubtree (region_subtree r)
  region_sound r h here = inner_sound r.states h (suc here.region + regions_in_initial r.states) (inside_region here)

  -- ---- charts

  test_of : (f : Features) (states : ℕ) (super : Bool) (t : Transition) → IsTransition f variables states super t → SoundTest t
  test_of f states super t rules = record { trigger = rules.trigger; effects = each_of (IsEffect variables) t.effects rules.effects }

  state_of : (f : Features) (levels count : ℕ) → ((regions : List Region) → AreRegions f variables levels regions →
      Each (λ r. SoundSubtree (subtree_of_region r)) regions) →
      (s : State) → IsState f variables (AreRegions f variables levels) count s → SoundSubtree (subtree_of_state s)
  state_of f levels count inner s rules =
      subst SoundSubtree (sym (fold_out-State Subtree Subtree region_subtree state_subtree s))
      (state_sound (record {
        name = (out-State s).name;
        is_initial = (out-State s).is_initial;
        is_final = (out-State s).is_final;
        regions = map subtree_of_region (out-State s).regions;
        transitions = (out-State s).transitions;
      }) (each_of SoundTest (out-State s).transitions (λ i t is. test_of f count _ t (rules.transitions i t is)))
      (each_map SoundSubtree subtree_of_region (out-State s).regions (inner (out-State s).regions rules.regions)))

  region_of : (f : Features) (levels : ℕ) → ((regions : List Region) → AreRegions f variables levels regions →
      Each (λ r. SoundSubtree (subtree_of_region r)) regions) →
      (r : Region) → IsRegion f variables (AreRegions f variables levels) r → SoundSubtree (subtree_of_region r)
  region_of f levels inner r rules =
      subst SoundSubtree (sym (fold_out-Region Subtree Subtree region_subtree state_subtree r))
      (region_sound (record { name = (out-Region r).name; states = map subtree_of_state (out-Region r).states })
      (each_map SoundSubtree subtree_of_state (out-Region r).states
      (each_of (λ s. SoundSubtree (subtree_of_state s)) (out-Region r).states (λ i s is. state_of f levels _ inner s (rules.states i s is)))))

  regions_of : (f : Features) (levels : ℕ) (regions : List Region) → AreRegions f variables levels regions →
      Each (λ r. SoundSubtree (subtree_of_region r)) regions
  regions_of f zero regions rules = subst (λ rs. Each (λ r. SoundSubtree (subtree_of_region r)) rs) (sym rules) tt
  regions_of f (suc levels) regions rules =
      each_of (λ r. SoundSubtree (subtree_of_region r)) regions (λ i r is. region_of f levels (regions_of f levels) r (rules.each i r is))

  pub rows_sound : (f : Features) (levels : ℕ) (regions : List Region) → AreRegions f variables levels regions →
      Each SoundRow (table_of variables regions).states × Each SoundMove (table_of variables regions).opened
  rows_sound f levels regions rules = side_sound (map subtree_of_region regions) (each_map SoundSubtree subtree_of_region regions (regions_of f levels regions
      rules)) whole

-- of each number, also where it is none of a state
pub row_sound : (k : Table) → Each (SoundRow k.variables) k.states → (s : ℕ) → SoundRow k.variables (state_at k s)
row_sound k rows s =
    each_or (SoundRow k.variables) k.states s (record { holder = 0; regions = []; transitions = []; entered = []; opened = [] }) rows
    (record { transitions = tt; entered = tt; opened = tt })
