-- What entering the regions of a superstate makes of regions, it makes of those inside of the superstate alone; and transitions
-- lead to states of their region.
use Rattle.std.proofs.Common.{◌≡◌, ℕ, zero, suc, ◌+◌, ◌<◌, ⊎_elim, Bool, true, false, List, [], ◌∷◌, ◌++◌, map, length, slice_set}
use Rattle.std.proofs.Common.{Contains, refl, sym, ap, subst, ◌∙◌, arith}
use Rattle.std.proofs.lemmas.List.{length-map}
use Rattle.sc_graph.specs.declared.program.Variable.{Variable}
use Rattle.sc_text.proofs.EachItem.{Each, each_of, each_append, each_more, each_filter}
use Rattle.core_charts.specs.declared.features.Features.{Features}
use Rattle.core_charts.specs.declared.region.Region.{Region}
use Rattle.core_charts.specs.declared.region.Region.TheOpen.{Region-F}
use Rattle.core_charts.specs.declared.region.Region.TheViews.{out-Region, out-State}
use Rattle.core_charts.specs.declared.region.Region.TheFolds.{fold_out-Region, fold_out-State}
use Rattle.core_charts.specs.declared.region.State.{State}
use Rattle.core_charts.specs.declared.region.Transition.{Transition}
use Rattle.core_charts.specs.Chart.{Chart}
use Rattle.core_charts.specs.Rules.{IsChart, IsRegion, AreRegions, depth_limit}
use Rattle.core_charts.specs.Tests.{at_once, is_strong, is_weak, is_join, strong_aborts, weak_aborts, terminations, first_closing_tests}
use Rattle.chart_machine.specs.declared.standing.Standing.{Standing}
use Rattle.chart_machine.specs.declared.standing.Standing.TheVariants as at
use Rattle.chart_machine.specs.declared.standing.Move.{Move}
use Rattle.chart_machine.specs.declared.table.Table.{Table}
use Rattle.chart_machine.specs.declared.table.TablePosition.{TablePosition}
use Rattle.chart_machine.specs.Table.{Subtree, table, whole, state_at, region_at, state_numbers, side_by_side, behind, within, inside_region, states_in}
use Rattle.chart_machine.specs.Table.{next_behind, past_states}
use Rattle.chart_machine.specs.Table.{regions_in_initial, rows_of_state_at, in_region, come_to, region_subtree}
use Rattle.chart_machine.specs.Table.{state_subtree, subtree_of_region, subtree_of_state}
use Rattle.chart_machine.specs.Table.{entered_state, is_superstate}
use Rattle.chart_machine.specs.Steps.{moved}
use Rattle.chart_machine_laws.specs.Tree.{around, holder}
use Rattle.abort_expansion_laws.specs.CoreRows.{own}
use Rattle.chart_machine_laws.proofs.LyingIn.{none_in, head_in, tail_in, head_or_tail}
use Rattle.chart_machine_laws.proofs.RowsOfSubtrees.{Holds, IsSized, AllSized, state_sized, region_sized, side_states}
use Rattle.chart_machine_laws.proofs.TableTrees.{OnceInitial}
use Rattle.chart_machine_laws.proofs.ChartTables.{holds_whole}
use Rattle.abort_expansion_laws.proofs.Leaving.{at_number, set_other}
use Rattle.abort_expansion_laws.proofs.InRegionRows.{InRegionAt, first_holds, rest_holds, position_of}
use Rattle.abort_expansion_laws.proofs.SideRows.{side_head, side_tail}
use Rattle.abort_expansion_laws.proofs.Walked.{Range, range_none, range_both, range_to, range_more}
use Rattle.abort_expansion_laws.proofs.RowsOfForks.{region_rows}
use Rattle.abort_expansion_laws.proofs.ChartWalk.{one_state_begins}
use Rattle.abort_expansion_laws.proofs.StateEntry.{Entry, entry_of}

module _ (k : Table) where
  -- the test leads to a state of the region that holds this state
  abbrev pub Leads : ℕ → Transition → Type 0
  Leads s t = t.target < length (region_at k (holder k s)).states

  abbrev pub LeadingStanding : Standing → Type 0
  LeadingStanding (at.Trying s tests) = Each (Leads s) tests
  LeadingStanding (at.Entering s tests) = Each (Leads s) tests
  LeadingStanding (at.Guarding s tests) = Each (Leads s) tests
  LeadingStanding (at.Within s tests) = Each (Leads s) tests
  LeadingStanding other = Unit {0}

  -- the region of a move has these superstates around it, and the tests that it comes to lead to states of it
  abbrev MoveIn : List ℕ → Move → Type 0
  MoveIn zs m = ((o : ℕ) → Contains zs o → Contains (around k m.region) o) × LeadingStanding m.standing

  abbrev pub MovesIn : List ℕ → List Move → Type 0
  MovesIn zs ms = Each (MoveIn zs) ms

  record OpensInside (s : ℕ) : Type 0 where
    moves : MovesIn (s ∷ []) (state_at k s).opened
    entry : Entry k s
    -- each of its transitions leads to a state of its region
    targets : Each (Leads s) (own k s)

  fewer : (xs ys : List ℕ) (ms : List Move) → ((o : ℕ) → Contains ys o → Contains xs o) → MovesIn xs ms → MovesIn ys ms
  fewer xs ys ms into h = each_more (MoveIn xs) (MoveIn ys) ms (λ m inner. ((λ o has. inner.0 o (into o has)), inner.1)) h

  record RegionMoves (r : Region) : Type 0 where
    enters : (a : TablePosition) → Holds k a ((subtree_of_region r).parts a) → MovesIn a.around ((subtree_of_region r).parts a).entered
    opens : (a : TablePosition) → Holds k a ((subtree_of_region r).parts a) → Range OpensInside a.state (a.state + (subtree_of_region r).states)
    sized : IsSized (subtree_of_region r)

  -- of a state of a region with so many states
  record StateMovesBy (n : ℕ) (p : Subtree) : Type 0 where
    enters : (a : TablePosition) → Holds k a (p.parts a) → around k a.holder ≡ a.around → length (region_at k a.holder).states ≡ n →
        MovesIn a.around (p.parts a).entered
    opens : (a : TablePosition) → Holds k a (p.parts a) → around k a.holder ≡ a.around → length (region_at k a.holder).states ≡ n →
        Range OpensInside a.state (a.state + p.states)
    sized : IsSized p

  abbrev StateMoves : ℕ → State → Type 0
  StateMoves n s = StateMovesBy n (subtree_of_state s)

  sized_regions : (regions : List Region) → Each RegionMoves regions → AllSized (map subtree_of_region regions)
  sized_regions [] each = tt
  sized_regions (r ∷ regions) each = (each.0.sized, sized_regions regions each.1)

  sized_states : (n : ℕ) (states : List State) → Each (StateMoves n) states → AllSized (map subtree_of_state states)
  sized_states n [] each = tt
  sized_states n (s ∷ states) each = (each.0.sized, sized_states n states each.1)

  side_enters : (regions : List Region) → Each RegionMoves regions → (a : TablePosition) → Holds k a (side_by_side (map subtree_of_region regions) a) →
      MovesIn a.around (side_by_side (map subtree_of_region regions) a).entered
  side_enters [] each a holds = tt
  side_enters (r ∷ regions) each a holds =
      each_append (MoveIn a.around) ((subtree_of_region r).parts a).entered _ (each.0.enters a (side_head k (subtree_of_region r)
      (map subtree_of_region regions) a holds))
      (side_enters regions each.1 (behind (subtree_of_region r) a)
      (side_tail k (subtree_of_region r) (map subtree_of_region regions) a each.0.sized holds))

  side_opens : (regions : List Region) → Each RegionMoves regions → (a : TablePosition) → Holds k a (side_by_side (map subtree_of_region regions) a) →
      Range OpensInside a.state (a.state + states_in (map subtree_of_region regions))
  side_opens [] each a holds = range_none OpensInside a.state (a.state + 0) (omega arith)
  side_opens (r ∷ regions) each a holds =
      let p : Subtree = subtree_of_region r in
      range_to OpensInside a.state ((a.state + p.states) + states_in (map subtree_of_region regions)) (a.state + states_in (p ∷ map subtree_of_region regions))
      (omega arith)
      (range_both OpensInside a.state (a.state + p.states) ((a.state + p.states) + states_in (map subtree_of_region regions))
      (each.0.opens a (side_head k p (map subtree_of_region regions) a holds))
      (side_opens regions each.1 (behind p a) (side_tail k p (map subtree_of_region regions) a each.0.sized holds)))

  inner_enters : (n : ℕ) (states : List State) → Each (StateMoves n) states → (a : TablePosition) (next : ℕ) →
      InRegionAt k (map subtree_of_state states) next a →
      OnceInitial (map subtree_of_state states) → around k a.holder ≡ a.around → length (region_at k a.holder).states ≡ n →
      MovesIn a.around (in_region (map subtree_of_state states) next a).entered
  inner_enters n [] each a next rows once around_it size = tt
  inner_enters n (s ∷ states) each a next rows once around_it size =
      let p : Subtree = subtree_of_state s in
      let ps : List Subtree = map subtree_of_state states in
      by_first p.is_initial (first_holds k p ps next a rows)
      (inner_enters n states each.1 (past_states p.states a) (next_behind p next) (rest_holds k p ps next a each.0.sized once rows) once.1 around_it size)
    where
      by_first : (b : Bool) → Holds k (position_of b next a) ((subtree_of_state s).parts (position_of b next a)) →
          MovesIn a.around (in_region (map subtree_of_state states) (next_behind (subtree_of_state s) next)
          (past_states (subtree_of_state s).states a)).entered →
          MovesIn a.around ((rows_of_state_at b (subtree_of_state s).parts next a).entered
          ++ (in_region (map subtree_of_state states) (next_behind (subtree_of_state s) next) (past_states (subtree_of_state s).states a)).entered)
      by_first true holds rest = each_append (MoveIn a.around) ((subtree_of_state s).parts a).entered _ (each.0.enters a holds around_it size) rest
      by_first false holds rest = rest

  inner_opens : (n : ℕ) (states : List State) → Each (StateMoves n) states → (a : TablePosition) (next : ℕ) →
      InRegionAt k (map subtree_of_state states) next a →
      OnceInitial (map subtree_of_state states) → around k a.holder ≡ a.around → length (region_at k a.holder).states ≡ n →
      Range OpensInside a.state (a.state + states_in (map subtree_of_state states))
  inner_opens n [] each a next rows once around_it size = range_none OpensInside a.state (a.state + 0) (omega arith)
  inner_opens n (s ∷ states) each a next rows once around_it size =
      let p : Subtree = subtree_of_state s in
      let ps : List Subtree = map subtree_of_state states in
      range_to OpensInside a.state ((a.state + p.states) + states_in ps) (a.state + states_in (p ∷ ps)) (omega arith)
      (range_both OpensInside a.state (a.state + p.states) ((a.state + p.states) + states_in ps)
      (each.0.opens (position_of p.is_initial next a) (first_holds k p ps next a rows) around_it size)
      (inner_opens n states each.1 (past_states p.states a) (next_behind p next) (rest_holds k p ps next a each.0.sized once rows) once.1 around_it size))

  module _ (name : List ℕ) (initial final : Bool) (regions : List Region) (all : List Transition) (each : Each RegionMoves regions) (n : ℕ)
      (in_range : Each (λ (t : Transition). t.target < n) all) where
    abbrev layer : Subtree
    layer = state_subtree (record { name = name; is_initial = initial; is_final = final; regions = map subtree_of_region regions; transitions = all })

    own_move : (a : TablePosition) → around k a.holder ≡ a.around → (o : ℕ) → Contains a.around o → Contains (around k a.holder) o
    own_move a around_it o h = subst (λ zs. Contains zs o) (sym around_it) h

    opened_in : (a : TablePosition) → Holds k a (layer.parts a) →
        MovesIn (a.state ∷ a.around) (side_by_side (map subtree_of_region regions) (within a)).entered
    opened_in a holds = side_enters regions each (within a) (record { states = holds.states.1; regions = holds.regions })

    -- a selection of the tests leads where all of them do
    module _ (a : TablePosition) (all_lead : Each (Leads a.state) all) where
      strong_lead : Each (Leads a.state) (at_once (strong_aborts all))
      strong_lead =
          each_filter (Leads a.state) (λ t. t.immediate) (strong_aborts all) (each_filter (Leads a.state) (λ t. is_strong t.kind) all all_lead)

      closing_lead : Each (Leads a.state) (first_closing_tests all)
      closing_lead =
          each_append (Leads a.state) (at_once (weak_aborts all)) (terminations all)
          (each_filter (Leads a.state) (λ t. t.immediate) (weak_aborts all) (each_filter (Leads a.state) (λ t. is_weak t.kind) all all_lead))
          (each_filter (Leads a.state) (λ t. is_join t.kind) all all_lead)

    come_in : (a : TablePosition) → around k a.holder ≡ a.around → (strong closing : List Transition) (opened : List Move) →
        Each (Leads a.state) strong → Each (Leads a.state) closing →
        MovesIn (a.state ∷ a.around) opened → MovesIn a.around (come_to a.holder a.state strong closing opened)
    come_in a around_it [] closing opened strongs closings h = (
      (own_move a around_it, closings),
      fewer (a.state ∷ a.around) a.around opened (λ o has. tail_in a.state o a.around has) h,
    )
    come_in a around_it (t ∷ strong) closing opened strongs closings h = ((own_move a around_it, strongs), tt)

    entered_in : (a : TablePosition) → around k a.holder ≡ a.around → (ends super : Bool) (opened : List Move) → Each (Leads a.state) all →
        MovesIn (a.state ∷ a.around) opened → MovesIn a.around (entered_state ends super a all opened)
    entered_in a around_it true super opened all_lead h = ((own_move a around_it, tt), tt)
    entered_in a around_it false false opened all_lead h = (
      (own_move a around_it, each_filter (Leads a.state) (λ t. t.immediate) all all_lead),
      tt,
    )
    entered_in a around_it false true opened all_lead h =
        come_in a around_it (at_once (strong_aborts all)) (first_closing_tests all) opened (strong_lead a all_lead) (closing_lead a all_lead) h

    -- all of them do
    lead_here : (a : TablePosition) → Holds k a (layer.parts a) → length (region_at k a.holder).states ≡ n → Each (Leads a.state) all
    lead_here a holds size =
        let held : holder k a.state ≡ a.holder = ap (λ z. z.holder) holds.states.0 in
        let count : length (region_at k (holder k a.state)).states ≡ n = ap (λ q. length (region_at k q).states) held ∙ size in
        each_more (λ (t : Transition). t.target < n) (Leads a.state) all (λ t lt. omega (lt, count, arith)) in_range

    only_head : (a : TablePosition) (o : ℕ) → Contains (a.state ∷ []) o → Contains (a.state ∷ a.around) o
    only_head a o h =
        ⊎_elim (λ same. subst (Contains (a.state ∷ a.around)) same (head_in a.state a.around)) (λ none. absurd (none_in o none)) (head_or_tail a.state o [] h)

    layer_moves : StateMovesBy n layer
    layer_moves =
        record {
          enters = λ a holds around_it size.
              entered_in a around_it final (is_superstate (map subtree_of_region regions)) (side_by_side (map subtree_of_region regions) (within a)).entered
              (lead_here a holds size) (opened_in a holds);
          opens = λ a holds around_it size.
              range_more OpensInside a.state (a.state + suc (states_in (map subtree_of_region regions)))
              (record {
                moves =
                    subst (MovesIn (a.state ∷ [])) (sym (ap (λ z. z.opened) holds.states.0))
                    (fewer (a.state ∷ a.around) (a.state ∷ []) (side_by_side (map subtree_of_region regions) (within a)).entered (only_head a)
                    (opened_in a holds));
                entry = entry_of k a final (map subtree_of_region regions) all (side_by_side (map subtree_of_region regions) (within a)).entered holds.states.0;
                targets = subst (λ ts. Each (Leads a.state) ts) (sym (ap (λ z. z.transitions) holds.states.0)) (lead_here a holds size);
              })
              (range_to OpensInside (suc a.state) (suc a.state + states_in (map subtree_of_region regions)) (a.state + suc (states_in
              (map subtree_of_region regions)))
              (omega arith) (side_opens regions each (within a) (record { states = holds.states.1; regions = holds.regions })));
          sized = state_sized (record { name = name; is_initial = initial; is_final = final; regions = map subtree_of_region regions; transitions = all })
              (sized_regions regions each);
        }

  state_moves : (n : ℕ) (s : State) → Each RegionMoves (out-State s).regions → Each (λ (t : Transition). t.target < n) (out-State s).transitions →
      StateMoves n s
  state_moves n s each in_range =
      let o = out-State s in
      subst (StateMovesBy n) (sym (fold_out-State Subtree Subtree region_subtree state_subtree s))
      (layer_moves o.name o.is_initial o.is_final o.regions o.transitions each n in_range)

  pub numbers_length : (ps : List Subtree) (n : ℕ) → length (state_numbers ps n) ≡ length ps
  numbers_length [] n = refl
  numbers_length (p ∷ ps) n = ap suc (numbers_length ps (n + p.states))

  abbrev layer_of : Region → Region-F Subtree Subtree
  layer_of r = record { name = (out-Region r).name; states = map subtree_of_state (out-Region r).states }

  region_moves : (r : Region) → OnceInitial (map subtree_of_state (out-Region r).states) →
      Each (StateMoves (length (out-Region r).states)) (out-Region r).states → RegionMoves r
  region_moves r once each =
      record {
        enters = λ a holds.
            subst (λ p. MovesIn a.around (p.parts a).entered) (sym is)
            (let rows = region_rows k (layer_of r) a sized (subst (λ p. Holds k a (p.parts a)) is holds) in
            inner_enters (length (out-Region r).states) (out-Region r).states each (inside_region a)
            (suc a.region + regions_in_initial (map subtree_of_state (out-Region r).states)) rows.1 once (ap (λ z. z.around) rows.0) (counted a rows.0));
        opens = λ a holds.
            subst (λ p. Range OpensInside a.state (a.state + p.states)) (sym is)
            (let rows = region_rows k (layer_of r) a sized (subst (λ p. Holds k a (p.parts a)) is holds) in
            inner_opens (length (out-Region r).states) (out-Region r).states each (inside_region a)
            (suc a.region + regions_in_initial (map subtree_of_state (out-Region r).states)) rows.1 once (ap (λ z. z.around) rows.0)
            (counted a rows.0));
        sized = subst IsSized (sym is) (region_sized (layer_of r) sized);
      }
    where
      is : subtree_of_region r ≡ region_subtree (layer_of r)
      is = fold_out-Region Subtree Subtree region_subtree state_subtree r

      counted : (a : TablePosition) → region_at k a.region ≡ record {
        around = a.around;
        states = state_numbers (map subtree_of_state (out-Region r).states) a.state;
      } → length (region_at k a.region).states ≡ length (out-Region r).states
      counted a is_row =
          ap (λ z. length z.states) is_row ∙
          (numbers_length (map subtree_of_state (out-Region r).states) a.state ∙ length-map (out-Region r).states subtree_of_state)

      sized : AllSized (map subtree_of_state (out-Region r).states)
      sized = sized_states (length (out-Region r).states) (out-Region r).states each

  regions_move : (f : Features) (variables : List Variable) (levels : ℕ) (regions : List Region) → AreRegions f variables levels regions →
      Each RegionMoves regions
  regions_move f variables zero regions rules = subst (Each RegionMoves) (sym rules) tt
  regions_move f variables (suc levels) regions rules =
      each_of RegionMoves regions (λ n r is. one r (rules.each n r is) (λ rs inner. regions_move f variables levels rs inner))
    where
      one : (r : Region) → IsRegion f variables (AreRegions f variables levels) r →
          ((rs : List Region) → AreRegions f variables levels rs → Each RegionMoves rs) → RegionMoves r
      one r region inner =
          region_moves r (one_state_begins (out-Region r).states region.one_initial)
          (each_of (StateMoves (length (out-Region r).states)) (out-Region r).states
          (λ j s is.
          let rules = region.states j s is in
          state_moves (length (out-Region r).states) s (inner (out-State s).regions rules.regions)
          (each_of (λ (t : Transition). t.target < length (out-Region r).states) (out-State s).transitions (λ n t at_n. (rules.transitions n t at_n).target))))

-- for each state of a chart that keeps its rules
opens_within : (f : Features) (c : Chart) → IsChart f c → (s : ℕ) → s < length (table c).states → OpensInside (table c) s
opens_within f c rules s lt =
    let each : Each (RegionMoves (table c)) c.regions = regions_move (table c) f c.variables depth_limit c.regions rules.regions in
    let size : length (table c).states ≡ states_in (map subtree_of_region c.regions) =
    side_states (map subtree_of_region c.regions) whole (sized_regions (table c) c.regions each) in
    side_opens (table c) c.regions each whole (holds_whole c.variables c.regions) s (omega arith) (omega (lt, size, arith))

-- so what is not inside stays where it is
unmoved : (k : Table) (s t : ℕ) → ¬ Contains (around k t) s → (ms : List Move) → MovesIn k (s ∷ []) ms → (zs : List Standing) →
    at_number (moved ms zs) t ≡ at_number zs t
unmoved k s t out [] h zs = refl
unmoved k s t out (m ∷ ms) h zs =
    unmoved k s t out ms h.1 (slice_set zs m.region m.standing) ∙
    set_other zs m.region t m.standing (λ same. out (subst (λ q. Contains (around k q) s) (sym same) (h.0.0 s (head_in s []))))

pub opened_elsewhere : (f : Features) (c : Chart) → IsChart f c → (s t : ℕ) (zs : List Standing) → s < length (table c).states →
    ¬ Contains (around (table c) t) s → at_number (moved (state_at (table c) s).opened zs) t ≡ at_number zs t
opened_elsewhere f c rules s t zs lt out = unmoved (table c) s t out (state_at (table c) s).opened (opens_within f c rules s lt).moves zs

-- and each state is entered as its row says
pub charts_enter : (f : Features) (c : Chart) → IsChart f c → (s : ℕ) → s < length (table c).states → Entry (table c) s
charts_enter f c rules s lt = (opens_within f c rules s lt).entry

-- each transition of a state leads to a state of its region, and so do the tests of regions inside of it where they are entered
pub charts_lead : (f : Features) (c : Chart) → IsChart f c → (s : ℕ) → s < length (table c).states → Each (Leads (table c) s) (own (table c) s)
charts_lead f c rules s lt = (opens_within f c rules s lt).targets
