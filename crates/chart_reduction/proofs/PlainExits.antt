-- A chart without exit actions keeps its states and transitions, and no region notes where it is.
use Rattle.std.proofs.Common.{◌≡◌, ℕ, ◌+◌, None, List, [], ◌∷◌, ◌++◌, map, length, refl, sym, ap, ◌∙◌, arith, if◌then◌else◌}
use Rattle.sc_graph.specs.declared.program.Variable.{Variable}
use Rattle.sc_text.proofs.EachItem.{Each, each_more, each_map}
use Rattle.core_charts.specs.declared.region.Effect.{Effect}
use Rattle.core_charts.specs.declared.region.Transition.{Transition}
use Rattle.core_charts.specs.declared.region.Region.{Region}
use Rattle.core_charts.specs.declared.region.State.{State}
use Rattle.core_charts.specs.declared.region.Region.TheViews.{out-Region, out-State}
use Rattle.chart_reduction.specs.declared.entries.leaving.Leaving.{Leaving}
use Rattle.extended_charts.specs.declared.extended.ExtendedRegion.{ExtendedRegion}
use Rattle.extended_charts.specs.declared.extended.ExtendedState.{ExtendedState}
use Rattle.extended_charts.specs.declared.extended.ExtendedRegion.TheViews.{roll-ExtendedRegion, roll-ExtendedState}
use Rattle.extended_charts.specs.Making.{has_some, one}
use Rattle.chart_reduction.specs.Exits.{LeftRegion, LeftState, left_region, left_state, region_step, state_step, left_by, left_transitions, left_behind}
use Rattle.chart_reduction.specs.Exits.{notes, notes_in, notes_among, exits_of, leavings_in, leavings_among, own_leaving, own_note, all_regions, all_states}
use Rattle.chart_reduction.specs.Exits.{all_behind, all_inside, outer_regions}
use Rattle.chart_reduction.specs.Laws.{of_region, of_state}
use Rattle.chart_reduction.proofs.ByRules.{Cases}
use Rattle.extended_charts.proofs.Walks.{walked, none_counted}
use Rattle.chart_reduction.proofs.PlainParts.{over_state, over_region, state_is, region_is, state_folded, region_folded}

-- such a region, as it is left: to this one
pub record Unleft (left : LeftRegion) (made : ExtendedRegion) : Type 0 where
  pub inside : left.inside ≡ 0
  pub exits : left.exits ≡ []
  pub leavings : (x : ℕ) → left.leavings x ≡ []
  pub stays : (x : ℕ) → left.made None x ≡ made

pub record UnleftState (left : LeftState) (made : ExtendedState) : Type 0 where
  pub inside : left.inside ≡ 0
  pub exit : left.exit ≡ []
  pub leavings : (x : ℕ) → left.leavings x ≡ []
  pub stays : (number x place : ℕ) → left.made None number x place ≡ made
  pub behind : (x place : ℕ) → left.behind None x place ≡ []

abbrev StaysRegion : ExtendedRegion → Type 0
StaysRegion r = Unleft (left_region r) r

abbrev StaysState : ExtendedState → Type 0
StaysState s = UnleftState (left_state s) s

abbrev pub RegionUnleft : Region → Type 0
RegionUnleft r = StaysRegion (of_region r)

abbrev pub StateUnleft : ℕ → State → Type 0
StateUnleft count s = StaysState (of_state s)

none_more : {A : Type 0} (xs ys : List A) → xs ≡ [] → ys ≡ [] → xs ++ ys ≡ []
none_more xs ys first second = ap (λ zs. zs ++ ys) first ∙ second

one_more : {A : Type 0} (x y : A) (xs ys : List A) → x ≡ y → xs ≡ ys → x ∷ xs ≡ y ∷ ys
one_more x y xs ys first others = ap (λ z. z ∷ xs) first ∙ ap (λ zs. y ∷ zs) others

-- ---- regions beside each other

abbrev lefts : List Region → List LeftRegion
lefts regions = map left_region (map of_region regions)

regions_stay : (regions : List Region) → Each RegionUnleft regions → Each StaysRegion (map of_region regions)
regions_stay = each_map StaysRegion of_region

no_notes : (r : ExtendedRegion) → StaysRegion r → notes (left_region r) ≡ 0
no_notes r h = let none : one (has_some (left_region r).exits) ≡ 0 = ap (λ es. one (has_some es)) h.exits in omega (arith, h.inside, none)

no_notes_in : (regions : List Region) → Each RegionUnleft regions → notes_in (lefts regions) ≡ 0
no_notes_in regions h =
    none_counted left_region notes (map of_region regions)
    (each_more StaysRegion (λ r. notes (left_region r) ≡ 0) (map of_region regions) no_notes (regions_stay regions h))

no_leavings_in : (regions : List Region) → Each RegionUnleft regions → (x : ℕ) → leavings_in x (lefts regions) ≡ []
no_leavings_in regions h =
    walked (λ (rs : List ExtendedRegion) (made : List Leaving). made ≡ []) StaysRegion left_region notes (λ r x. r.leavings x) refl
    (λ r x rs made one none. none_more ((left_region r).leavings x) made (one.leavings x) none) (map of_region regions) (regions_stay regions h)

all_stay : (regions : List Region) → Each RegionUnleft regions → (x : ℕ) → all_regions x (lefts regions) ≡ map of_region regions
all_stay regions h =
    let made_of : LeftRegion → ℕ → List (List Effect) → ExtendedRegion = λ l x es. l.made (own_note (x + l.inside) (has_some es)) x in
    walked (λ (rs made : List ExtendedRegion). made ≡ rs) StaysRegion left_region notes (λ r x. r.made (own_note (x + r.inside) (has_some r.exits)) x ∷ []) refl
    (λ r x rs made one same.
    one_more (made_of (left_region r) x (left_region r).exits) r made rs (ap (made_of (left_region r) x) one.exits ∙ one.stays x) same)
    (map of_region regions) (regions_stay regions h)

pub none_inside : (regions : List Region) → Each RegionUnleft regions → all_inside (lefts regions) ≡ 0
none_inside regions h =
    none_counted left_region (λ r. r.inside) (map of_region regions)
    (each_more StaysRegion (λ r. (left_region r).inside ≡ 0) (map of_region regions) (λ r one. one.inside) (regions_stay regions h))

pub outer_stay : (regions : List Region) → Each RegionUnleft regions → (x : ℕ) → outer_regions x (lefts regions) ≡ map of_region regions
outer_stay regions h =
    walked (λ (rs made : List ExtendedRegion). made ≡ rs) StaysRegion left_region (λ r. r.inside) (λ r x. r.made None x ∷ []) refl
    (λ r x rs made one same. one_more ((left_region r).made None x) r made rs (one.stays x) same) (map of_region regions) (regions_stay regions h)

-- ---- states of one region

abbrev left_states : List State → List LeftState
left_states states = map left_state (map of_state states)

states_are : (states : List State) → Each (λ s. StaysState (of_state s)) states → Each StaysState (map of_state states)
states_are = each_map StaysState of_state

no_notes_among : (count : ℕ) (states : List State) → Each (StateUnleft count) states → notes_among (left_states states) ≡ 0
no_notes_among count states h =
    none_counted left_state (λ s. s.inside) (map of_state states)
    (each_more StaysState (λ s. (left_state s).inside ≡ 0) (map of_state states) (λ s one. one.inside) (states_are states h))

no_exits_of : (count : ℕ) (states : List State) → Each (StateUnleft count) states → exits_of (left_states states) ≡ []
no_exits_of count [] h = refl
no_exits_of count (s ∷ states) h =
    let l : LeftState = left_state (of_state s) in
    ap (λ e. if has_some e then e ∷ exits_of (left_states states) else exits_of (left_states states)) h.0.exit ∙ no_exits_of count states h.1

no_leavings_among : (count : ℕ) (states : List State) → Each (StateUnleft count) states → (x : ℕ) → leavings_among x (left_states states) ≡ []
no_leavings_among count states h =
    walked (λ (ss : List ExtendedState) (made : List Leaving). made ≡ []) StaysState left_state (λ s. s.inside) (λ s x. s.leavings x) refl
    (λ s x ss made one none. none_more ((left_state s).leavings x) made (one.leavings x) none) (map of_state states) (states_are states h)

states_stay : (count : ℕ) (states : List State) → Each (StateUnleft count) states → (number x place : ℕ) →
    all_states None number x place (left_states states) ≡ map of_state states
states_stay count [] h number x place = refl
states_stay count (s ∷ states) h number x place =
    let l : LeftState = left_state (of_state s) in
    let rest : List ExtendedState =
    all_states None (number + one (has_some l.exit)) (x + l.inside) (place + length (l.behind None x place)) (left_states states) in
    ap (λ m. m ∷ rest) (h.0.stays number x place)
    ∙ ap (λ ms. of_state s ∷ ms) (states_stay count states h.1 (number + one (has_some l.exit)) (x + l.inside) (place + length (l.behind None x place)))

none_behind : (count : ℕ) (states : List State) → Each (StateUnleft count) states → (x place : ℕ) → all_behind None x place (left_states states) ≡ []
none_behind count [] h x place = refl
none_behind count (s ∷ states) h x place =
    let l : LeftState = left_state (of_state s) in
    let rest : List ExtendedState = all_behind None (x + l.inside) (place + length (l.behind None x place)) (left_states states) in
    ap (λ m. m ++ rest) (h.0.behind x place)
    ∙ none_behind count states h.1 (x + l.inside) (place + length (l.behind None x place))

-- ---- one state, and one region

all_left_by_nothing : (transitions : List Transition) → map (left_by []) transitions ≡ transitions
all_left_by_nothing [] = refl
all_left_by_nothing (t ∷ transitions) = ap (λ ts. t ∷ ts) (all_left_by_nothing transitions)

same_transitions : (place : ℕ) (leavings : List Leaving) (transitions : List Transition) → leavings ≡ [] →
    left_transitions place leavings [] transitions ≡ transitions
same_transitions place leavings transitions h =
    ap (λ ls. left_transitions place ls [] transitions) h ∙ all_left_by_nothing transitions

state_unleft : (s : State) → Each RegionUnleft (out-State s).regions → UnleftState (left_state (of_state s)) (of_state s)
state_unleft s h =
    let regions : List Region = (out-State s).regions in
    let transitions : List Transition = (out-State s).transitions in
    let is = state_folded LeftRegion LeftState region_step state_step s in
    record {
      inside = ap (λ l. l.inside) is ∙ no_notes_in regions h;
      exit = ap (λ l. l.exit) is;
      leavings = λ x. ap (λ l. l.leavings x) is ∙ no_leavings_in regions h x;
      stays = λ number x place.
          ap (λ l. l.made None number x place) is
          ∙ ap (λ rs. roll-ExtendedState (record (over_state s rs) { transitions = left_transitions place (leavings_in x (lefts regions)) [] transitions }))
          (all_stay regions h x)
          ∙ ap (λ ts. roll-ExtendedState (record (over_state s (map of_region regions)) { transitions = ts }))
          (same_transitions place (leavings_in x (lefts regions)) transitions (no_leavings_in regions h x))
          ∙ sym (state_is s);
      behind = λ x place.
          ap (λ l. l.behind None x place) is ∙ ap (λ ls. left_behind place ls [] transitions) (no_leavings_in regions h x);
    }

region_unleft : (r : Region) → Each (StateUnleft (length (out-Region r).states)) (out-Region r).states → RegionUnleft r
region_unleft r h =
    let states : List State = (out-Region r).states in
    let count : ℕ = length states in
    let is = region_folded LeftRegion LeftState region_step state_step r in
    let none : exits_of (left_states states) ≡ [] = no_exits_of count states h in
    record {
      inside = ap (λ l. l.inside) is ∙ no_notes_among count states h;
      exits = ap (λ l. l.exits) is ∙ none;
      leavings = λ x.
          ap (λ l. l.leavings x) is
          ∙ ap (λ ls. ls ++ own_leaving (x + notes_among (left_states states)) (exits_of (left_states states))) (no_leavings_among count states h x)
          ∙ ap (λ es. own_leaving (x + notes_among (left_states states)) es) none;
      stays = λ x.
          ap (λ l. l.made None x) is
          ∙ ap (λ ss. roll-ExtendedRegion (over_region r (ss ++ all_behind None x (length (left_states states)) (left_states states))))
          (states_stay count states h 1 x (length (left_states states)))
          ∙ ap (λ bs. roll-ExtendedRegion (over_region r (map of_state states ++ bs))) (none_behind count states h x (length (left_states states)))
          ∙ ap (λ ss. roll-ExtendedRegion (over_region r ss)) (append_nothing (map of_state states))
          ∙ sym (region_is r);
    }
  where
    append_nothing : (xs : List ExtendedState) → xs ++ [] ≡ xs
    append_nothing [] = refl
    append_nothing (x ∷ xs) = ap (λ ys. x ∷ ys) (append_nothing xs)

pub nothing_left : (variables : List Variable) → Cases variables RegionUnleft StateUnleft
nothing_left variables = record { of_state = λ count s rules h. state_unleft s h; of_region = λ r h. region_unleft r h }
