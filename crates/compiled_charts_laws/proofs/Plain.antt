-- A chart without aborts is its own expansion, and each state stands for itself.
use Rattle.std.proofs.Common.{◌≡◌, ℕ, zero, suc, ◌+◌, ◌<◌, Bool, true, false, not, ◌||◌}
use Rattle.std.proofs.Common.{◌&&◌, if◌then◌else◌, Some, None, List, [], ◌∷◌, ◌++◌, map, length}
use Rattle.std.proofs.Common.{slice_get, unwrap_or, refl, sym, ap, subst, ◌∙◌, arith}
use Rattle.std.proofs.lemmas.List.{append-nil}
use Rattle.std.proofs.lemmas.Bool.{or_parts}
use Rattle.sc_graph.specs.declared.program.Variable.{Variable}
use Rattle.sc_text.proofs.EachItem.{Each, each_of}
use Rattle.core_charts.specs.declared.features.Features.TheVariants as features
use Rattle.core_charts.specs.declared.region.Transition.{Transition}
use Rattle.core_charts.specs.declared.region.Region.{Region}
use Rattle.core_charts.specs.declared.region.State.{State}
use Rattle.core_charts.specs.declared.region.Region.TheOpen.{State-F}
use Rattle.core_charts.specs.declared.region.Region.TheViews.{roll-State, out-Region, out-State, roll-out-Region, roll-out-State}
use Rattle.core_charts.specs.declared.region.Region.TheFolds.{fold_out-Region, fold_out-State}
use Rattle.core_charts.specs.Chart.{Chart}
use Rattle.core_charts.specs.Rules.{IsChart, AreRegions, IsRegion, IsBareIfFinal, depth_limit}
use Rattle.core_charts.specs.Aborts.{has_strong, has_weak, has_aborts, some_of, region_aborts, state_aborts}
use Rattle.core_charts.specs.Aborts.{region_has_aborts, state_has_aborts, chart_has_aborts}
use Rattle.node_states.specs.Nodes as row
use Rattle.abort_expansion.specs.declared.flags.Flags.{Flags}
use Rattle.abort_expansion.specs.declared.places.RegionPlaces.{RegionPlaces}
use Rattle.abort_expansion.specs.declared.pieces.StatePieces.{StatePieces}
use Rattle.abort_expansion.specs.declared.pieces.Regions.{Regions}
use Rattle.abort_expansion.specs.declared.pieces.NextNumbers.{NextNumbers}
use Rattle.abort_expansion.specs.Flags.{flags_of, has_join, given, one, is_there, aborts_around, weak_around}
use Rattle.abort_expansion.specs.Transitions.{led, counting, place_of, check, strong_checks, weak_checks, on, count_down}
use Rattle.abort_expansion.specs.Pieces.{RegionPiece, StatePiece, beside, together, expanded_regions, states_in, past_region}
use Rattle.abort_expansion.specs.Superstates.{simple, stays, as_it_is, split, within}
use Rattle.abort_expansion.specs.StateMap.{chart_state}
use Rattle.abort_expansion.specs.Expansion.{region_piece, state_piece, piece_of_region, piece_of_state, places, region_places, expanded_states, states_among}
use Rattle.abort_expansion.specs.Expansion.{made, width, inside_region, past_state}
use Rattle.abort_expansion.specs.Expansion.{expansion, expanded, state_map, whole}
use Rattle.compiled_charts_laws.proofs.NumbersInRow.{numbers_from, more_numbers, number_at, none_among, map_same}

-- ---- superstates around that have no aborts

abbrev no_flags : Flags
no_flags = record { strong = None; weak = None; counter = None }

-- by whether it has strong aborts, weak aborts, and a termination
abbrev flags_by : Bool → Bool → Bool → ℕ → Flags
flags_by strong weak join x = record {
  strong = given strong x;
  weak = given weak (x + one strong);
  counter = given (join && ((strong || weak) || false)) (x + one strong + one weak);
}

no_flags_by : (strong weak join : Bool) (x : ℕ) → (strong || weak) ≡ false → flags_by strong weak join x ≡ no_flags
no_flags_by true weak join x h = absurd cc
no_flags_by false true join x h = absurd cc
no_flags_by false false true x h = refl
no_flags_by false false false x h = refl

abbrev HasNone : Flags → Type 0
HasNone f = (f.strong ≡ None) × (f.weak ≡ None)

no_aborts_around : (around : List Flags) → Each HasNone around → aborts_around around ≡ false
no_aborts_around [] h = refl
no_aborts_around (f ∷ around) h =
    ap (λ o. (is_there o || is_there f.weak) || aborts_around around) h.0.0
    ∙ ap (λ o. is_there o || aborts_around around) h.0.1
    ∙ no_aborts_around around h.1

none_weak_around : (around : List Flags) → Each HasNone around → weak_around around ≡ false
none_weak_around [] h = refl
none_weak_around (f ∷ around) h = ap (λ o. is_there o || weak_around around) h.0.1 ∙ none_weak_around around h.1

no_strong_checks : (immediate : Bool) (left : ℕ) (around : List Flags) → Each HasNone around → strong_checks immediate left around ≡ []
no_strong_checks immediate left [] h = refl
no_strong_checks immediate left (f ∷ around) h =
    ap (λ o. check immediate left o ++ strong_checks immediate left around) h.0.0
    ∙ no_strong_checks immediate left around h.1

no_weak_checks : (immediate : Bool) (left : ℕ) (around : List Flags) → Each HasNone around → weak_checks immediate left around ≡ []
no_weak_checks immediate left [] h = refl
no_weak_checks immediate left (f ∷ around) h =
    ap (λ o. check immediate left o ++ weak_checks immediate left around) h.0.1
    ∙ no_weak_checks immediate left around h.1

-- ---- regions and states

abbrev as_region : Region → ℕ → ℕ → Regions
as_region r n count = record { regions = r ∷ []; variables = []; stands_for = numbers_from n count }

abbrev with_initial : State → Bool → State
with_initial s begins = roll-State (record {
  name = (out-State s).name;
  is_initial = begins;
  is_final = (out-State s).is_final;
  regions = (out-State s).regions;
  transitions = (out-State s).transitions;
})

abbrev as_state : State → Bool → ℕ → ℕ → StatePieces
as_state s begins n count = record { states = with_initial s begins ∷ []; variables = []; stands_for = numbers_from n count }

record RegionStays (r : Region) : Type 0 where
  made : (around : List Flags) → Each HasNone around → (at : NextNumbers) →
      (piece_of_region r).made around None at ≡ as_region r at.state (piece_of_region r).states
  states : (piece_of_region r).states ≡ (row.piece_of_region r).states

abbrev StaysTo : RegionPlaces → State → Type 0
StaysTo to s = Each (λ t. led to t ≡ t) (out-State s).transitions

record StateStays (s : State) : Type 0 where
  made : (around : List Flags) → Each HasNone around → (to : RegionPlaces) → StaysTo to s → (place : ℕ) (begins : Bool) (at : NextNumbers) →
      (piece_of_state s).made around to place begins at ≡ as_state s begins at.state (piece_of_state s).states
  width : (around : List Flags) → Each HasNone around → (piece_of_state s).width around ≡ 1
  initial : (piece_of_state s).is_initial ≡ (out-State s).is_initial
  states : (piece_of_state s).states ≡ (row.piece_of_state s).states

-- regions side by side
all_stay : (regions : List Region) → Each RegionStays regions → (around : List Flags) → Each HasNone around → (at : NextNumbers) →
    expanded_regions (map piece_of_region regions) around None at
    ≡ record { regions = regions; variables = []; stands_for = numbers_from at.state (states_in (map piece_of_region regions)) }
all_stay [] each around none at = refl
all_stay (r ∷ regions) each around none at =
    let p : RegionPiece = piece_of_region r in
    let next : NextNumbers = past_region (weak_around around) p at in
    ap (λ x. together x (expanded_regions (map piece_of_region regions) around None next)) (each.0.made around none at)
    ∙ ap (λ x. together (as_region r at.state p.states) x) (all_stay regions each.1 around none next)
    ∙ ap (λ xs. record { regions = r ∷ regions; variables = []; stands_for = xs })
    (more_numbers at.state next.state p.states (states_in (map piece_of_region regions)) refl)

side_states : (regions : List Region) → Each RegionStays regions → states_in (map piece_of_region regions) ≡ row.states_in (map row.piece_of_region regions)
side_states [] each = refl
side_states (r ∷ regions) each =
    let here : (piece_of_region r).states ≡ (row.piece_of_region r).states = each.0.states in
    let rest : states_in (map piece_of_region regions) ≡ row.states_in (map row.piece_of_region regions) = side_states regions each.1 in
    omega (arith, here, rest)

-- a state of these parts
module _ (name : List ℕ) (is_initial is_final : Bool) (regions : List Region) (all : List Transition) (bare : is_final ≡ true → (regions ≡ []) × (all ≡ []))
    (none : has_aborts all ≡ false) (inside : Each RegionStays regions) where
  abbrev opened : List Region → State-F RegionPiece StatePiece
  opened rs = record { name = name; is_initial = is_initial; is_final = is_final; regions = map piece_of_region rs; transitions = all }

  abbrev of_regions : Bool → Bool → List Region → ℕ → ℕ → StatePieces
  of_regions begins final rs n count = record {
    states = roll-State (record { name = name; is_initial = begins; is_final = final; regions = rs; transitions = all }) ∷ [];
    variables = [];
    stands_for = numbers_from n count;
  }

  simple_stays : (final : Bool) → (final ≡ true → all ≡ []) → (around : List Flags) → Each HasNone around → (to : RegionPlaces) → Each (λ t. led to t ≡ t) all →
      (begins : Bool) → simple final name all around to begins
      ≡ roll-State (record { name = name; is_initial = begins; is_final = final; regions = []; transitions = all })
  simple_stays true empty around plain to stay begins =
      ap (λ ts. roll-State (record { name = name; is_initial = begins; is_final = true; regions = []; transitions = ts })) (sym (empty refl))
  simple_stays false empty around plain to stay begins =
      ap (λ ts. roll-State (record { name = name; is_initial = begins; is_final = false; regions = []; transitions = ts }))
      (ap (λ xs. (xs ++ map (led to) all) ++ weak_checks true to.left around) (no_strong_checks false to.left around plain)
      ∙ ap (λ xs. map (led to) all ++ xs) (no_weak_checks true to.left around plain)
      ∙ append-nil (map (led to) all)
      ∙ map_same (led to) all stay)

  stays_so : (around : List Flags) → Each HasNone around → stays around all ≡ true
  stays_so around plain =
      ap (λ b. not (b || aborts_around around)) none ∙ ap not (no_aborts_around around plain)

  plain_flags : (around : List Flags) → Each HasNone around → (x : ℕ) → flags_of (weak_around around) all x ≡ no_flags
  plain_flags around plain x =
      ap (λ b. flags_of b all x) (none_weak_around around plain) ∙ no_flags_by (has_strong all) (has_weak all) (has_join all) x none

  -- with regions
  module _ (r : Region) (rs : List Region) (are : regions ≡ r ∷ rs) (around : List Flags) (plain : Each HasNone around) (to : RegionPlaces)
      (stay : Each (λ t. led to t ≡ t) all) (place : ℕ) (begins : Bool) (at : NextNumbers) where
    abbrev flags : Flags
    flags = flags_of (weak_around around) all at.variable

    abbrev inner : Regions
    inner = expanded_regions (map piece_of_region (r ∷ rs)) (around ++ flags ∷ []) flags.counter (within (weak_around around) all at)

    plain_too : (xs : List Flags) → Each HasNone xs → Each HasNone (xs ++ no_flags ∷ [])
    plain_too [] h = ((refl, refl), tt)
    plain_too (f ∷ xs) h = (h.0, plain_too xs h.1)

    inner_stays : inner ≡ record { regions = r ∷ rs; variables = []; stands_for = numbers_from (suc at.state) (states_in (map piece_of_region (r ∷ rs))) }
    inner_stays =
        ap (λ (f : Flags). expanded_regions (map piece_of_region (r ∷ rs)) (around ++ f ∷ []) f.counter (within (weak_around around) all at))
        (plain_flags around plain at.variable)
        ∙ all_stay (r ∷ rs) (subst (Each RegionStays) are inside) (around ++ no_flags ∷ []) (plain_too around plain) (within (weak_around around) all at)

    super_made : (b : Bool) → is_final ≡ b → (state_piece (opened (r ∷ rs))).made around to place begins at
        ≡ of_regions begins b (r ∷ rs) at.state (suc (states_in (map piece_of_region (r ∷ rs))))
    super_made true final = absurd (let no : r ∷ rs ≡ [] = sym are ∙ (bare final).0 in cc)
    super_made false final =
        ap (λ b. if b then as_it_is name all inner to begins at
        else split name (length (map piece_of_region (r ∷ rs))) all around flags inner to place begins at)
        (stays_so around plain)
        ∙ ap (λ x. as_it_is name all x to begins at) inner_stays
        ∙ ap (λ ts. record {
          states = roll-State (record { name = name; is_initial = begins; is_final = false; regions = r ∷ rs; transitions = ts }) ∷ [];
          variables = [];
          stands_for = numbers_from at.state (suc (states_in (map piece_of_region (r ∷ rs))));
        }) (map_same (led to) all stay)

  state_made : (rs : List Region) → regions ≡ rs → (around : List Flags) → Each HasNone around → (to : RegionPlaces) → Each (λ t. led to t ≡ t) all →
      (place : ℕ)
      (begins : Bool) (at : NextNumbers) →
      (state_piece (opened rs)).made around to place begins at ≡ of_regions begins is_final rs at.state (suc (states_in (map piece_of_region rs)))
  state_made [] are around plain to stay place begins at =
      ap (λ s. record { states = s ∷ []; variables = []; stands_for = Some at.state ∷ [] })
      (simple_stays is_final (λ final. (bare final).1) around plain to stay begins)
  state_made (r ∷ rs) are around plain to stay place begins at = super_made r rs are around plain to stay place begins at is_final refl

  state_width : (rs : List Region) (around : List Flags) → Each HasNone around → (state_piece (opened rs)).width around ≡ 1
  state_width [] around plain = refl
  state_width (r ∷ rs) around plain =
      ap (λ b. if b then 1 else if Rattle.abort_expansion.specs.Superstates.is_prepared around all then 3 else 2) (stays_so around plain)

state_stays : (s : State) → IsBareIfFinal s → state_has_aborts s ≡ false → (some_of (map region_has_aborts (out-State s).regions) ≡ false →
    Each RegionStays (out-State s).regions) → StateStays s
state_stays s bare none inside =
    let here : (has_aborts (out-State s).transitions || some_of (map region_has_aborts (out-State s).regions)) ≡ false =
    sym (fold_out-State Bool Bool region_aborts state_aborts s) ∙ none in
    let both : (has_aborts (out-State s).transitions ≡ false) × (some_of (map region_has_aborts (out-State s).regions) ≡ false) =
    or_parts (has_aborts (out-State s).transitions) (some_of (map region_has_aborts (out-State s).regions)) here in
    let regions : Each RegionStays (out-State s).regions = inside both.1 in
    let fold : piece_of_state s ≡ state_piece (opened (out-State s).name (out-State s).is_initial (out-State s).is_final (out-State s).regions
    (out-State s).transitions bare both.0 regions (out-State s).regions) = fold_out-State RegionPiece StatePiece region_piece state_piece s in
    record {
      made = λ around plain to stay place begins at.
          subst (λ (p : StatePiece). p.made around to place begins at ≡ as_state s begins at.state p.states) (sym fold)
          (state_made (out-State s).name (out-State s).is_initial (out-State s).is_final (out-State s).regions (out-State s).transitions bare both.0 regions
          (out-State s).regions refl around plain to stay place begins at);
      width = λ around plain.
          ap (λ (p : StatePiece). p.width around) fold
          ∙ state_width (out-State s).name (out-State s).is_initial (out-State s).is_final (out-State s).regions (out-State s).transitions bare both.0
          regions (out-State s).regions around plain;
      initial = ap (λ (p : StatePiece). p.is_initial) fold;
      states =
          ap (λ (p : StatePiece). p.states) fold
          ∙ ap suc (side_states (out-State s).regions regions)
          ∙ sym (ap (λ (p : row.StatePiece). p.states) (fold_out-State row.RegionPiece row.StatePiece row.region_piece row.state_piece s));
    }

-- ---- the states of a region

and_true : (b : Bool) → (b && true) ≡ b
and_true true = refl
and_true false = refl

states_stay : (states : List State) → Each StateStays states → (around : List Flags) → Each HasNone around → (to : RegionPlaces) → Each (StaysTo to) states →
    (place : ℕ) (at : NextNumbers) → expanded_states false (map piece_of_state states) around to place at
    ≡ record { states = states; variables = []; stands_for = numbers_from at.state (states_among (map piece_of_state states)) }
states_stay [] each around plain to stay place at = refl
states_stay (s ∷ states) each around plain to stay place at =
    let p : StatePiece = piece_of_state s in
    let next : NextNumbers = past_state (weak_around around) p at in
    let begins : (p.is_initial && true) ≡ (out-State s).is_initial = and_true p.is_initial ∙ each.0.initial in
    let here : p.made around to place (p.is_initial && true) at ≡ record { states = s ∷ []; variables = []; stands_for = numbers_from at.state p.states } =
    each.0.made around plain to stay.0 place (p.is_initial && true) at
    ∙ ap (λ b. as_state s b at.state p.states) begins
    ∙ ap (λ x. record { states = x ∷ []; variables = []; stands_for = numbers_from at.state p.states }) (roll-out-State s) in
    ap (λ x. beside x (expanded_states false (map piece_of_state states) around to (place + p.width around) next)) here
    ∙ ap (λ x. beside (record { states = s ∷ []; variables = []; stands_for = numbers_from at.state p.states }) x)
    (states_stay states each.1 around plain to stay.1 (place + p.width around) next)
    ∙ ap (λ xs. record { states = s ∷ states; variables = []; stands_for = xs })
    (more_numbers at.state next.state p.states (states_among (map piece_of_state states)) refl)

no_more : (n : ℕ) → 0 + n ≡ n
no_more n = omega arith

-- each is where it was
place_at : (states : List State) → Each StateStays states → (around : List Flags) → Each HasNone around → (place i : ℕ) → i < length states →
    slice_get (places (map piece_of_state states) around place) i ≡ Some (place + i)
place_at [] each around plain place i less = absurd (omega (arith, less))
place_at (s ∷ states) each around plain place zero less = let same : place ≡ place + 0 = omega arith in ap Some same
place_at (s ∷ states) each around plain place (suc i) less =
    let wide : (piece_of_state s).width around ≡ 1 = each.0.width around plain in
    let same : (place + (piece_of_state s).width around) + i ≡ place + suc i = omega (arith, wide) in
    place_at states each.1 around plain (place + (piece_of_state s).width around) i (omega (arith, less)) ∙ ap Some same

-- a transition leads where it led
led_same : (to : RegionPlaces) → to.counter ≡ None → (t : Transition) → place_of to t.target ≡ t.target → led to t ≡ t
led_same to none t same =
    ap (λ n. record t { effects = counting to t.target t.effects; target = n }) same
    ∙ ap (λ es. record t { effects = es }) (counts (unwrap_or (slice_get to.finals t.target) false))
  where
    counts : (b : Bool) → (if b then t.effects ++ on to.counter count_down else t.effects) ≡ t.effects
    counts true = ap (λ o. t.effects ++ on o count_down) none ∙ append-nil t.effects
    counts false = refl

among_states : (states : List State) → Each StateStays states → states_among (map piece_of_state states) ≡ row.states_among (map row.piece_of_state states)
among_states [] each = refl
among_states (s ∷ states) each =
    let here : (piece_of_state s).states ≡ (row.piece_of_state s).states = each.0.states in
    let rest : states_among (map piece_of_state states) ≡ row.states_among (map row.piece_of_state states) = among_states states each.1 in
    omega (arith, here, rest)

no_left : (b : Bool) → b ≡ false → Rattle.abort_expansion.specs.Expansion.left_behind b ≡ record { states = []; variables = []; stands_for = [] }
no_left b h = ap Rattle.abort_expansion.specs.Expansion.left_behind h

module _ (variables : List Variable) (AreInside : List Region → Type 0) (r : Region) (rules : IsRegion features.Extended variables AreInside r)
    (each : Each StateStays (out-Region r).states) where
  abbrev states : List State
  states = (out-Region r).states

  abbrev to : List Flags → RegionPlaces
  to around = region_places (map piece_of_state states) around None 0

  leads : (around : List Flags) → Each HasNone around → Each (StaysTo (to around)) states
  leads around plain = each_of (StaysTo (to around)) states
      (λ i s at. each_of (λ t. led (to around) t ≡ t) (out-State s).transitions
      (λ j t there. led_same (to around) refl t
      (ap (λ o. unwrap_or o 0) (place_at states each around plain 0 t.target ((rules.states i s at).transitions j t there).target) ∙ no_more t.target)))

  inside_stays : (around : List Flags) → Each HasNone around → (at : NextNumbers) → inside_region (map piece_of_state states) around None at
      ≡ record { states = states; variables = []; stands_for = numbers_from at.state (states_among (map piece_of_state states)) }
  inside_stays around plain at =
      ap (λ x. beside (record { states = []; variables = []; stands_for = [] })
      (beside (expanded_states false (map piece_of_state states) around (to around) 0 at) x)) (no_left (aborts_around around) (no_aborts_around around plain))
      ∙ ap (λ x. beside (record { states = []; variables = []; stands_for = [] }) (beside x (record { states = []; variables = []; stands_for = [] })))
      (states_stay states each around plain (to around) (leads around plain) 0 at)
      ∙ ap (λ ss. record { states = ss; variables = []; stands_for = numbers_from at.state (states_among (map piece_of_state states)) ++ [] })
      (append-nil states)
      ∙ ap (λ ns. record { states = states; variables = []; stands_for = ns }) (append-nil (numbers_from at.state (states_among (map piece_of_state states))))

  region_made : (around : List Flags) → Each HasNone around → (at : NextNumbers) →
      (piece_of_region r).made around None at ≡ as_region r at.state (piece_of_region r).states
  region_made around plain at =
      subst (λ (p : RegionPiece). p.made around None at ≡ as_region r at.state p.states)
      (sym (fold_out-Region RegionPiece StatePiece region_piece state_piece r))
      (ap (λ x. Rattle.abort_expansion.specs.Expansion.named (out-Region r).name x) (inside_stays around plain at)
      ∙ ap (λ x. record { regions = x ∷ []; variables = []; stands_for = numbers_from at.state (states_among (map piece_of_state states)) })
      (roll-out-Region r))

  region_stays : RegionStays r
  region_stays = record {
    made = region_made;
    states =
        ap (λ (p : RegionPiece). p.states) (fold_out-Region RegionPiece StatePiece region_piece state_piece r)
        ∙ among_states states each
        ∙ sym (ap (λ (p : row.RegionPiece). p.states) (fold_out-Region row.RegionPiece row.StatePiece row.region_piece row.state_piece r));
  }

-- ---- charts

regions_stay : (variables : List Variable) (levels : ℕ) (regions : List Region) → AreRegions features.Extended variables levels regions →
    some_of (map region_has_aborts regions) ≡ false → Each RegionStays regions
regions_stay variables zero regions h none = subst (Each RegionStays) (sym h) tt
regions_stay variables (suc levels) regions h none =
    let each : Each (λ r. region_has_aborts r ≡ false) regions = none_among region_has_aborts regions none in
    each_of RegionStays regions (λ i r at. one r (h.each i r at)
    (Rattle.sc_text.proofs.EachItem.each_at (λ r. region_has_aborts r ≡ false) regions each i r at) (regions_stay variables levels))
  where
    one : (r : Region) → IsRegion features.Extended variables (AreRegions features.Extended variables levels) r → region_has_aborts r ≡ false →
        ((rs : List Region) → AreRegions features.Extended variables levels rs → some_of (map region_has_aborts rs) ≡ false → Each RegionStays rs) →
        RegionStays r
    one r rules quiet inner =
        let states : List State = (out-Region r).states in
        let none : Each (λ s. state_has_aborts s ≡ false) states = none_among state_has_aborts states
        (sym (fold_out-Region Bool Bool region_aborts state_aborts r) ∙ quiet) in
        region_stays variables (AreRegions features.Extended variables levels) r rules
        (each_of StateStays states (λ i s at. state_stays s (rules.states i s at).bare
        (Rattle.sc_text.proofs.EachItem.each_at (λ s. state_has_aborts s ≡ false) states none i s at)
        (λ quiet. inner (out-State s).regions (rules.states i s at).regions quiet)))

module _ (c : Chart) (rules : IsChart features.Extended c) (none : chart_has_aborts c ≡ false) where
  stay : Each RegionStays c.regions
  stay = regions_stay c.variables depth_limit c.regions rules.regions none

  whole_stays : expansion c ≡ record { regions = c.regions; variables = []; stands_for = numbers_from 0 (states_in (map piece_of_region c.regions)) }
  whole_stays = all_stay c.regions stay [] tt (whole (length c.variables))

  -- it is its own expansion
  pub expands_to_itself : expanded c ≡ c
  expands_to_itself =
      ap (λ (x : Regions). record { name = c.name; variables = c.variables ++ x.variables; regions = x.regions }) whole_stays
      ∙ ap (λ vs. record { name = c.name; variables = vs; regions = c.regions }) (append-nil c.variables)

  -- and each of its states stands for itself
  pub stands_for_itself : (s : ℕ) → s < row.state_count c → chart_state (state_map c) s ≡ Some s
  stands_for_itself s less =
      let many : states_in (map piece_of_region c.regions) ≡ row.states_in (map row.piece_of_region c.regions) = side_states c.regions stay in
      ap (λ (x : Regions). chart_state x.stands_for s) whole_stays
      ∙ ap (λ o. unwrap_or o None) (number_at (states_in (map piece_of_region c.regions)) 0 s (omega (arith, less, many)))
      ∙ ap Some (no_more s)
