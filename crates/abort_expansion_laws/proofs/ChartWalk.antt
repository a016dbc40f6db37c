-- The regions of a chart that keeps its rules, walked over at every depth; and that each region of a table has a state.
use Rattle.std.proofs.Common.{◌≡◌, ℕ, zero, suc, ◌+◌, ◌<◌, inl, inr, Bool, true, false, cond, Some, List, [], ◌∷◌, ◌++◌, map, length}
use Rattle.std.proofs.Common.{count_by, slice_get, refl, sym, subst, ◌∙◌, arith}
use Rattle.std.specs.Prelude.{IsTrue}
use Rattle.std.specs.List.{list_any}
use Rattle.sc_graph.specs.declared.program.Variable.{Variable}
use Rattle.sc_text.proofs.EachItem.{Each, each_of, each_append, each_map}
use Rattle.core_charts.specs.declared.features.Features.{Features}
use Rattle.core_charts.specs.declared.region.Region.{Region}
use Rattle.core_charts.specs.declared.region.Region.TheViews.{out-Region, out-State}
use Rattle.core_charts.specs.declared.region.Region.TheFolds.{fold_out-Region, fold_out-State}
use Rattle.core_charts.specs.declared.region.State.{State}
use Rattle.core_charts.specs.declared.region.Transition.{Transition}
use Rattle.core_charts.specs.declared.region.TransitionKind.{TransitionKind}
use Rattle.core_charts.specs.declared.region.TransitionKind.TheVariants as kind
use Rattle.core_charts.specs.Rules.{IsState, IsRegion, AreRegions, has_regions, fits_state}
use Rattle.core_charts.specs.Tests.{is_strong, is_weak, is_join}
use Rattle.chart_machine.specs.declared.table.RegionRow.{RegionRow}
use Rattle.chart_machine.specs.declared.table.TablePosition.{TablePosition}
use Rattle.chart_machine.specs.Table.{Subtree, side_by_side, behind, in_region, rows_of_state_at, with_region, next_behind, past_states, within, inside_region}
use Rattle.chart_machine.specs.Table.{regions_in_initial, state_numbers, region_subtree, state_subtree, subtree_of_region, subtree_of_state}
use Rattle.chart_machine_laws.proofs.TableTrees.{OnceInitial}
use Rattle.chart_machine_laws.proofs.ChartTables.{is_first, count, count_is, first_is, once_initial}
use Rattle.abort_expansion.specs.Flags.{has_join}
use Rattle.core_charts.specs.Aborts.{has_strong, has_weak, has_aborts}
use Rattle.abort_expansion.specs.Expansion.{piece_of_region as expanded_region}
use Rattle.core_charts.specs.declared.features.Features.TheVariants as features
use Rattle.std.proofs.lemmas.List.{length-map}
use Rattle.abort_expansion_laws.proofs.Walks.{RegionWalks, StateWalks, pieces_of}
use Rattle.abort_expansion_laws.proofs.WalkState.{walk_state}
use Rattle.abort_expansion_laws.proofs.WalkRegion.{walk_region}
use Rattle.abort_expansion_laws.proofs.InitialStates.{HasInitial}

-- ---- one state of a region is initial

has_initial : (states : List State) → count states ≡ 1 → HasInitial (pieces_of states)
has_initial [] e = absurd (omega (e, arith))
has_initial (s ∷ states) e = by_first (is_first s) refl (λ later. has_initial states later) e
  where
    by_first : (b : Bool) → is_first s ≡ b → (count states ≡ 1 → HasInitial (pieces_of states)) → cond b (1 + count states) (count states) ≡ 1 →
        HasInitial (pieces_of (s ∷ states))
    by_first true is later e = inl (first_is s ∙ is)
    by_first false is later e = inr (later e)

pub one_state_begins : (states : List State) → count_by is_first states ≡ 1 → OnceInitial (pieces_of states)
one_state_begins states e = once_initial states (omega (count_is states, e, arith))

-- ---- a simple state has no aborts

none_any : (P : Transition → Bool) (all : List Transition) → ((i : ℕ) (t : Transition) → slice_get all i ≡ Some t → P t ≡ false) → list_any P all ≡ false
none_any P [] h = refl
none_any P (t ∷ all) h = rw (h 0 t refl) (none_any P all (λ i u is. h (suc i) u is))

simple_kind : (k : TransitionKind) → IsTrue (fits_state false k) → (is_strong k ≡ false) × (is_weak k ≡ false) × (is_join k ≡ false)
simple_kind kind.Go fits = (refl, refl, refl)
simple_kind kind.Strong fits = absurd cc
simple_kind kind.Weak fits = absurd cc
simple_kind kind.Join fits = absurd cc

no_aborts : (all : List Transition) → ((i : ℕ) (t : Transition) → slice_get all i ≡ Some t → IsTrue (fits_state false t.kind)) →
    (has_aborts all ≡ false) × (has_join all ≡ false)
no_aborts all fits =
    let strong : has_strong all ≡ false = none_any (λ t. is_strong t.kind) all (λ i t is. (simple_kind t.kind (fits i t is)).0) in
    let weak : has_weak all ≡ false = none_any (λ t. is_weak t.kind) all (λ i t is. (simple_kind t.kind (fits i t is)).1) in
    (rw (strong, weak) refl, none_any (λ t. is_join t.kind) all (λ i t is. (simple_kind t.kind (fits i t is)).2))

-- ---- by how deep regions nest

some_state : (states : List State) → count states ≡ 1 → (s : State) × ((others : List State) × (states ≡ s ∷ others))
some_state [] e = absurd (omega (e, arith))
some_state (s ∷ others) e = (s, (others, refl))

limit_low : (f : Features) → Rattle.core_charts.specs.Rules.region_limit f < 65
limit_low features.Extended = omega arith
limit_low features.Core = omega arith

few_regions : (f : Features) (variables : List Variable) (levels : ℕ) (regions : List Region) → AreRegions f variables levels regions →
    length (map expanded_region regions) < 2147483648
few_regions f variables zero regions rules = subst (λ rs. length (map expanded_region rs) < 2147483648) (sym rules) (omega arith)
few_regions f variables (suc levels) regions rules =
    let low = limit_low f in omega (arith, length-map regions expanded_region, rules.count, low)

pub regions_walk : (f : Features) (variables : List Variable) (levels : ℕ) (regions : List Region) → AreRegions f variables levels regions →
    Each RegionWalks regions
regions_walk f variables zero regions rules = subst (Each RegionWalks) (sym rules) tt
regions_walk f variables (suc levels) regions rules =
    each_of RegionWalks regions (λ i r at. one r (rules.each i r at) (λ rs inner. regions_walk f variables levels rs inner))
  where
    few_of : (levels : ℕ) (rs : List Region) → AreRegions f variables levels rs → length (map expanded_region rs) < 2147483648
    few_of levels rs inner = few_regions f variables levels rs inner

    one : (r : Region) → IsRegion f variables (AreRegions f variables levels) r → ((rs : List Region) → AreRegions f variables levels rs →
        Each RegionWalks rs) →
        RegionWalks r
    one r rules inner =
        let states : List State = (out-Region r).states in
        let one_only : count states ≡ 1 = count_is states ∙ rules.one_initial in
        let some = some_state states one_only in
        walk_region r some.0 some.1.0 some.1.1
        (subst (Each StateWalks) some.1.1
        (each_of StateWalks states (λ j s is.
        let own : IsState f variables (AreRegions f variables levels) (length states) s = rules.states j s is in
        walk_state s
        (λ empty. no_aborts (out-State s).transitions
        (λ n t at. subst (λ rs. IsTrue (fits_state (has_regions rs) t.kind)) empty (own.transitions n t at).fits))
        (few_of levels (out-State s).regions own.regions) own.bare (inner (out-State s).regions own.regions))))
        (subst (λ zs. OnceInitial (pieces_of zs)) some.1.1 (once_initial states (omega (one_only, arith))))
        (subst (λ zs. HasInitial (pieces_of zs)) some.1.1 (has_initial states one_only))

-- ---- each region has a state

abbrev pub HasState : RegionRow → Type 0
HasState row = (s : ℕ) × ((more : List ℕ) × (row.states ≡ s ∷ more))

abbrev AllHave : Subtree → Type 0
AllHave p = (at : TablePosition) → Each HasState (p.parts at).regions

side_have : (pieces : List Subtree) → Each AllHave pieces → (at : TablePosition) → Each HasState (side_by_side pieces at).regions
side_have [] have at = tt
side_have (p ∷ pieces) have at =
    each_append HasState (p.parts at).regions (side_by_side pieces (behind p at)).regions (have.0 at) (side_have pieces have.1 (behind p at))

inner_have : (pieces : List Subtree) → Each AllHave pieces → (next : ℕ) (at : TablePosition) →
    Each HasState (in_region pieces next at).first × Each HasState (in_region pieces next at).others
inner_have [] have next at = (tt, tt)
inner_have (p ∷ pieces) have next at =
    let rest = inner_have pieces have.1 (next_behind p next) (past_states p.states at) in
    by_first p.is_initial rest.0 rest.1
  where
    by_first : (b : Bool) → Each HasState (in_region pieces (next_behind p next) (past_states p.states at)).first →
        Each HasState (in_region pieces (next_behind p next) (past_states p.states at)).others →
        Each HasState ((rows_of_state_at b p.parts next at).first ++ (in_region pieces (next_behind p next) (past_states p.states at)).first)
        × Each HasState ((rows_of_state_at b p.parts next at).others ++ (in_region pieces (next_behind p next) (past_states p.states at)).others)
    by_first true first others = (each_append HasState (p.parts at).regions _ (have.0 at) first, others)
    by_first false first others = (first, each_append HasState (p.parts (with_region next at)).regions _ (have.0 (with_region next at)) others)

state_has : (s : State) → Each AllHave (map subtree_of_region (out-State s).regions) → AllHave (subtree_of_state s)
state_has s have = subst AllHave (sym (fold_out-State Subtree Subtree region_subtree state_subtree s))
    (λ at. side_have (map subtree_of_region (out-State s).regions) have (within at))

region_has : (r : Region) (s : State) (others : List State) → (out-Region r).states ≡ s ∷ others → Each AllHave (pieces_of (out-Region r).states) →
    AllHave (subtree_of_region r)
region_has r s others some have = subst AllHave (sym (fold_out-Region Subtree Subtree region_subtree state_subtree r)) opened
  where
    numbers : (at : TablePosition) → HasState (record { around = at.around; states = state_numbers (pieces_of (out-Region r).states) at.state })
    numbers at =
        subst (λ zs. HasState (record { around = at.around; states = state_numbers (pieces_of zs) at.state })) (sym some) (at.state, (_, refl))

    opened : AllHave (region_subtree (record { name = (out-Region r).name; states = (pieces_of (out-Region r).states) }))
    opened at =
        let inner = inner_have (pieces_of (out-Region r).states) have (suc at.region + regions_in_initial (pieces_of (out-Region r).states))
        (inside_region at) in
        (numbers at, each_append HasState _ _ inner.0 inner.1)

pub regions_have : (f : Features) (variables : List Variable) (levels : ℕ) (regions : List Region) → AreRegions f variables levels regions →
    Each AllHave (map subtree_of_region regions)
regions_have f variables zero regions rules = subst (λ rs. Each AllHave (map subtree_of_region rs)) (sym rules) tt
regions_have f variables (suc levels) regions rules =
    each_map AllHave subtree_of_region regions
    (each_of (λ r. AllHave (subtree_of_region r)) regions
    (λ i r at. one r (rules.each i r at) (λ rs inner. regions_have f variables levels rs inner)))
  where
    one : (r : Region) → IsRegion f variables (AreRegions f variables levels) r →
        ((rs : List Region) → AreRegions f variables levels rs → Each AllHave (map subtree_of_region rs)) → AllHave (subtree_of_region r)
    one r rules inner =
        let states : List State = (out-Region r).states in
        let some = some_state states (count_is states ∙ rules.one_initial) in
        region_has r some.0 some.1.0 some.1.1
        (each_map AllHave subtree_of_state states
        (each_of (λ s. AllHave (subtree_of_state s)) states
        (λ j s is. state_has s (inner (out-State s).regions (rules.states j s is).regions))))

pub rows_have : (f : Features) (variables : List Variable) (levels : ℕ) (regions : List Region) → AreRegions f variables levels regions → (at : TablePosition) →
    Each HasState (side_by_side (map subtree_of_region regions) at).regions
rows_have f variables levels regions rules at = side_have (map subtree_of_region regions) (regions_have f variables levels regions rules) at
