-- The transitions of a state of a chart lead to states of its region, and its termination has no trigger.
use Rattle.std.proofs.Common.{◌≡◌, ℕ, zero, suc, ◌+◌, ◌<◌, ⊎_elim, Bool, true, None, List, [], ◌∷◌, map, length, Contains, refl, sym, ap, subst, ◌∙◌, arith}
use Rattle.std.proofs.lemmas.List.{length-map}
use Rattle.sc_graph.specs.declared.program.Variable.{Variable}
use Rattle.sc_text.proofs.EachItem.{Each, each_of}
use Rattle.tick_laws.proofs.Lists.{get_contains, contains_none}
use Rattle.core_charts.specs.declared.features.Features.{Features}
use Rattle.core_charts.specs.declared.region.Region.{Region}
use Rattle.core_charts.specs.declared.region.Region.TheOpen.{Region-F}
use Rattle.core_charts.specs.declared.region.Region.TheViews.{out-Region, out-State}
use Rattle.core_charts.specs.declared.region.Region.TheFolds.{fold_out-Region, fold_out-State}
use Rattle.core_charts.specs.declared.region.State.{State}
use Rattle.core_charts.specs.declared.region.Transition.{Transition}
use Rattle.core_charts.specs.declared.region.TransitionKind.{TransitionKind}
use Rattle.core_charts.specs.declared.region.TransitionKind.TheVariants as kind
use Rattle.core_charts.specs.Chart.{Chart}
use Rattle.core_charts.specs.Tests.{is_join}
use Rattle.core_charts.specs.Rules.{IsChart, IsRegion, IsState, AreRegions, depth_limit}
use Rattle.chart_machine.specs.declared.table.Table.{Table}
use Rattle.chart_machine.specs.declared.table.TablePosition.{TablePosition}
use Rattle.chart_machine.specs.Table.{Subtree, table, whole, region_at, side_by_side, behind, within, inside_region, states_in, next_behind}
use Rattle.chart_machine.specs.Table.{past_states, regions_in_initial, region_subtree, state_subtree, subtree_of_region, subtree_of_state}
use Rattle.chart_machine.proofs.Outside.{within_or_past}
use Rattle.chart_machine_laws.specs.Tree.{holder}
use Rattle.chart_machine_laws.proofs.RowsOfSubtrees.{Holds, IsSized, AllSized, state_sized, region_sized, side_states}
use Rattle.chart_machine_laws.proofs.TableTrees.{OnceInitial}
use Rattle.chart_machine_laws.proofs.ChartTables.{holds_whole}
use Rattle.abort_expansion_laws.specs.CoreRows.{own}
use Rattle.abort_expansion_laws.proofs.InRegionRows.{InRegionAt, first_holds, rest_holds, position_of}
use Rattle.abort_expansion_laws.proofs.SideRows.{side_head, side_tail}
use Rattle.abort_expansion_laws.proofs.Walked.{Range, range_none, range_both, range_to, range_more}
use Rattle.abort_expansion_laws.proofs.RowsOfForks.{region_rows}
use Rattle.abort_expansion_laws.proofs.ChartWalk.{one_state_begins}
use Rattle.abort_expansion_laws.proofs.QuietBegins.{no_tests_past}
use Rattle.abort_expansion_laws.proofs.OpenedInside.{numbers_length}

module _ (k : Table) where
  -- what the rules say of a transition of a region with so many states
  abbrev pub Keeps : ℕ → Transition → Type 0
  Keeps count t = (t.target < count) × (is_join t.kind ≡ true → t.trigger ≡ None)

  abbrev TargetsThere : ℕ → Type 0
  TargetsThere s = (t : Transition) → Contains (own k s) t → Keeps (length (region_at k (holder k s)).states) t

  record RegionLeads (r : Region) : Type 0 where
    leads : (a : TablePosition) → Holds k a ((subtree_of_region r).parts a) → Range TargetsThere a.state (a.state + (subtree_of_region r).states)
    sized : IsSized (subtree_of_region r)

  -- of a state of a region with so many states
  record StateLeads (count : ℕ) (p : Subtree) : Type 0 where
    leads : (a : TablePosition) → Holds k a (p.parts a) → length (region_at k a.holder).states ≡ count → Range TargetsThere a.state (a.state + p.states)
    sized : IsSized p

  abbrev Leads : ℕ → State → Type 0
  Leads count s = StateLeads count (subtree_of_state s)

  sized_regions : (regions : List Region) → Each RegionLeads regions → AllSized (map subtree_of_region regions)
  sized_regions [] each = tt
  sized_regions (r ∷ regions) each = (each.0.sized, sized_regions regions each.1)

  sized_states : (count : ℕ) (states : List State) → Each (Leads count) states → AllSized (map subtree_of_state states)
  sized_states count [] each = tt
  sized_states count (s ∷ states) each = (each.0.sized, sized_states count states each.1)

  side_leads : (regions : List Region) → Each RegionLeads regions → (a : TablePosition) → Holds k a (side_by_side (map subtree_of_region regions) a) →
      Range TargetsThere a.state (a.state + states_in (map subtree_of_region regions))
  side_leads [] each a holds = range_none TargetsThere a.state (a.state + 0) (omega arith)
  side_leads (r ∷ regions) each a holds =
      let p : Subtree = subtree_of_region r in
      range_to TargetsThere a.state ((a.state + p.states) + states_in (map subtree_of_region regions)) (a.state + states_in (p ∷ map subtree_of_region regions))
      (omega arith)
      (range_both TargetsThere a.state (a.state + p.states) ((a.state + p.states) + states_in (map subtree_of_region regions))
      (each.0.leads a (side_head k p (map subtree_of_region regions) a holds))
      (side_leads regions each.1 (behind p a) (side_tail k p (map subtree_of_region regions) a each.0.sized holds)))

  inner_leads : (count : ℕ) (states : List State) → Each (Leads count) states → (a : TablePosition) (next : ℕ) →
      InRegionAt k (map subtree_of_state states) next a → OnceInitial (map subtree_of_state states) → length (region_at k a.holder).states ≡ count →
      Range TargetsThere a.state (a.state + states_in (map subtree_of_state states))
  inner_leads count [] each a next rows once many = range_none TargetsThere a.state (a.state + 0) (omega arith)
  inner_leads count (s ∷ states) each a next rows once many =
      let p : Subtree = subtree_of_state s in
      let ps : List Subtree = map subtree_of_state states in
      range_to TargetsThere a.state ((a.state + p.states) + states_in ps) (a.state + states_in (p ∷ ps)) (omega arith)
      (range_both TargetsThere a.state (a.state + p.states) ((a.state + p.states) + states_in ps)
      (each.0.leads (position_of p.is_initial next a) (first_holds k p ps next a rows) many)
      (inner_leads count states each.1 (past_states p.states a) (next_behind p next) (rest_holds k p ps next a each.0.sized once rows) once.1 many))

  module _ (name : List ℕ) (initial final : Bool) (regions : List Region) (all : List Transition) (each : Each RegionLeads regions)
      (count : ℕ) (lead : (t : Transition) → Contains all t → Keeps count t) where
    abbrev layer : Subtree
    layer = state_subtree (record { name = name; is_initial = initial; is_final = final; regions = map subtree_of_region regions; transitions = all })

    own_leads : (a : TablePosition) → Holds k a (layer.parts a) → length (region_at k a.holder).states ≡ count → TargetsThere a.state
    own_leads a holds many t h =
        let all_here : own k a.state ≡ all = ap (λ z. z.transitions) holds.states.0 in
        let held : holder k a.state ≡ a.holder = ap (λ z. z.holder) holds.states.0 in
        subst (λ n. Keeps n t) (sym (ap (λ r. length (region_at k r).states) held ∙ many)) (lead t (subst (λ zs. Contains zs t) all_here h))

    layer_leads : StateLeads count layer
    layer_leads =
        record {
          leads = λ a holds many.
              range_more TargetsThere a.state (a.state + suc (states_in (map subtree_of_region regions))) (own_leads a holds many)
              (range_to TargetsThere (suc a.state) (suc a.state + states_in (map subtree_of_region regions)) (a.state + suc (states_in
              (map subtree_of_region regions)))
              (omega arith) (side_leads regions each (within a) (record { states = holds.states.1; regions = holds.regions })));
          sized = state_sized (record { name = name; is_initial = initial; is_final = final; regions = map subtree_of_region regions; transitions = all })
              (sized_regions regions each);
        }

  state_leads : (count : ℕ) (s : State) → Each RegionLeads (out-State s).regions →
      ((t : Transition) → Contains (out-State s).transitions t → Keeps count t) → Leads count s
  state_leads count s each lead =
      let o = out-State s in
      subst (StateLeads count) (sym (fold_out-State Subtree Subtree region_subtree state_subtree s))
      (layer_leads o.name o.is_initial o.is_final o.regions o.transitions each count lead)

  abbrev layer_of : Region → Region-F Subtree Subtree
  layer_of r = record { name = (out-Region r).name; states = map subtree_of_state (out-Region r).states }

  region_leads : (r : Region) → OnceInitial (map subtree_of_state (out-Region r).states) →
      Each (Leads (length (out-Region r).states)) (out-Region r).states → RegionLeads r
  region_leads r once each =
      record {
        leads = λ a holds.
            subst (λ p. Range TargetsThere a.state (a.state + p.states)) (sym is)
            (let rows = region_rows k (layer_of r) a sized (subst (λ p. Holds k a (p.parts a)) is holds) in
            inner_leads (length (out-Region r).states) (out-Region r).states each (inside_region a)
            (suc a.region + regions_in_initial (map subtree_of_state (out-Region r).states)) rows.1 once
            (ap (λ z. length z.states) rows.0
            ∙ (numbers_length k (map subtree_of_state (out-Region r).states) a.state ∙ length-map (out-Region r).states subtree_of_state)));
        sized = subst IsSized (sym is) (region_sized (layer_of r) sized);
      }
    where
      is : subtree_of_region r ≡ region_subtree (layer_of r)
      is = fold_out-Region Subtree Subtree region_subtree state_subtree r

      sized : AllSized (map subtree_of_state (out-Region r).states)
      sized = sized_states (length (out-Region r).states) (out-Region r).states each

  regions_lead : (f : Features) (variables : List Variable) (levels : ℕ) (regions : List Region) → AreRegions f variables levels regions →
      Each RegionLeads regions
  regions_lead f variables zero regions rules = subst (Each RegionLeads) (sym rules) tt
  regions_lead f variables (suc levels) regions rules =
      each_of RegionLeads regions (λ n r is. one r (rules.each n r is) (λ rs inner. regions_lead f variables levels rs inner))
    where
      lead : (count : ℕ) (s : State) → IsState f variables (AreRegions f variables levels) count s → (t : Transition) →
          Contains (out-State s).transitions t → Keeps count t
      lead count s state t h =
          let at = get_contains (out-State s).transitions t h in
          let rules = state.transitions at.0 t at.1 in
          (rules.target, λ ends. (rules.plain_join (joins t.kind ends)).1)
        where
          joins : (z : TransitionKind) → is_join z ≡ true → z ≡ kind.Join
          joins kind.Join ends = refl
          joins kind.Go ends = absurd cc
          joins kind.Strong ends = absurd cc
          joins kind.Weak ends = absurd cc

      one : (r : Region) → IsRegion f variables (AreRegions f variables levels) r →
          ((rs : List Region) → AreRegions f variables levels rs → Each RegionLeads rs) → RegionLeads r
      one r region inner =
          region_leads r (one_state_begins (out-Region r).states region.one_initial)
          (each_of (Leads (length (out-Region r).states)) (out-Region r).states
          (λ j s is.
          state_leads (length (out-Region r).states) s (inner (out-State s).regions (region.states j s is).regions)
          (lead (length (out-Region r).states) s (region.states j s is))))

-- of each state of a chart that keeps its rules
keeps_rules : (f : Features) (c : Chart) → IsChart f c → (s : ℕ) → s < length (table c).states → (t : Transition) → Contains (own (table c) s) t →
    Keeps (table c) (length (region_at (table c) (holder (table c) s)).states) t
keeps_rules f c rules s lt =
    let each : Each (RegionLeads (table c)) c.regions = regions_lead (table c) f c.variables depth_limit c.regions rules.regions in
    let size : length (table c).states ≡ states_in (map subtree_of_region c.regions) =
    side_states (map subtree_of_region c.regions) whole (sized_regions (table c) c.regions each) in
    side_leads (table c) c.regions each whole (holds_whole c.variables c.regions) s (omega arith) (omega (lt, size, arith))

pub targets_there : (f : Features) (c : Chart) → IsChart f c → (s : ℕ) → s < length (table c).states → (t : Transition) → Contains (own (table c) s) t →
    t.target < length (region_at (table c) (holder (table c) s)).states
targets_there f c rules s lt t own_one = (keeps_rules f c rules s lt t own_one).0

pub ends_untested : (f : Features) (c : Chart) → IsChart f c → (s : ℕ) (t : Transition) → Contains (own (table c) s) t → is_join t.kind ≡ true →
    t.trigger ≡ None
ends_untested f c rules s t own_one ends =
    ⊎_elim (λ lt. (keeps_rules f c rules s lt t own_one).1 ends)
    (λ past. absurd (contains_none t (subst (λ zs. Contains zs t) (no_tests_past (table c) s past) own_one))) (within_or_past s (length (table c).states))
