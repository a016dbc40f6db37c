-- The map of states has an entry for each state of the core chart, that of its name.
use Rattle.std.proofs.Common.{◌≡◌, ℕ, zero, suc, ◌+◌, ◌||◌, ◌&&◌, not, Bool, true, false, Option, Some, None, List, [], ◌∷◌, ◌++◌}
use Rattle.std.proofs.Common.{map, length, slice_get, unwrap_or, refl, sym, ap, subst, ◌∙◌, arith, if◌then◌else◌}
use Rattle.std.specs.List.{list_any}
use Rattle.std.proofs.lemmas.List.{length-append}
use Rattle.std.proofs.lemmas.Option.{none-some, same_Some}
use Rattle.core_charts.specs.declared.features.Features.{Features}
use Rattle.core_charts.specs.declared.features.Features.TheVariants as features
use Rattle.sc_graph.specs.declared.program.Variable.{Variable}
use Rattle.core_charts.specs.declared.region.Transition.{Transition}
use Rattle.core_charts.specs.declared.region.Region.{Region}
use Rattle.core_charts.specs.declared.region.Region.TheOpen.{State-F}
use Rattle.core_charts.specs.declared.region.Region.TheViews.{out-Region, out-State}
use Rattle.core_charts.specs.declared.region.Region.TheFolds.{fold_out-Region, fold_out-State}
use Rattle.core_charts.specs.declared.region.State.{State}
use Rattle.core_charts.specs.Aborts.{has_aborts}
use Rattle.core_charts.specs.Rules.{IsRegion, AreRegions, depth_limit}
use Rattle.scl_graph_laws.proofs.Segments.{StandAt, stand_from, stand_first, stand_second, stand_all}
use Rattle.chart_machine.specs.Table as tables
use Rattle.chart_machine_laws.proofs.RowsOfSubtrees.{side_states}
use Rattle.abort_expansion.specs.declared.flags.Flags.{Flags}
use Rattle.abort_expansion.specs.declared.places.RegionPlaces.{RegionPlaces}
use Rattle.abort_expansion.specs.declared.pieces.StatePieces.{StatePieces}
use Rattle.abort_expansion.specs.declared.pieces.Regions.{Regions}
use Rattle.abort_expansion.specs.declared.pieces.NextNumbers.{NextNumbers}
use Rattle.abort_expansion.specs.Flags.{flags_of, weak_around, aborts_around, preparation_name, continuation_name}
use Rattle.abort_expansion.specs.Pieces.{beside, RegionPiece, StatePiece, superstates_in, states_in, past_region, expanded_regions}
use Rattle.abort_expansion.specs.Superstates.{stays, is_prepared, as_it_is, prepared, forked, within, monitor, watched, abandoned, simple}
use Rattle.abort_expansion.specs.Expansion.{is_superstate, state_piece, region_piece, piece_of_region, piece_of_state, past_state, expanded_states}
use Rattle.abort_expansion.specs.Expansion.{begins_anew}
use Rattle.abort_expansion.specs.Expansion.{initial_place, initial_number, new_initial, left_behind, region_places, region_over, inside_superstate}
use Rattle.abort_expansion.specs.Expansion.{superstates_among, states_among, whole, expanded, state_map}
use Rattle.abort_expansion_laws.specs.StateNames.{StateOfText, all_in, is_some, told_of_region, told_of_state, states_of_region, states_of_state, states_of}
use Rattle.abort_expansion_laws.specs.StateNames.{superstates_before, superstate_number, StandsFor, itself, starts, prepares, continues, leaves, watches}
use Rattle.abort_expansion_laws.specs.StateNames.{StatesAreMapped}
use Rattle.abort_expansion_laws.proofs.MappedLists.{EachStandsFor, as_many, MappedStates, MappedRegions, mapped_append, state_mapped, simple_mapped}
use Rattle.abort_expansion_laws.proofs.MappedLists.{region_mapped, none_mapped}
use Rattle.abort_expansion_laws.proofs.StatePlaces.{begins_where}

-- ---- how many superstates there are among some states

abbrev super_one : Bool → ℕ
super_one b = if b then 1 else 0

abbrev supers : List StateOfText → ℕ
supers [] = 0
supers (x ∷ xs) = super_one x.is_superstate + supers xs

supers_append : (xs ys : List StateOfText) → supers (xs ++ ys) ≡ supers xs + supers ys
supers_append [] ys = omega arith
supers_append (x ∷ xs) ys = omega (arith, supers_append xs ys)

before_one : (those : List StateOfText) (n : ℕ) (x : StateOfText) → slice_get those n ≡ Some x →
    superstates_before those (suc n) ≡ superstates_before those n + super_one x.is_superstate
before_one [] n x at = absurd (none-some x at)
before_one (y ∷ those) zero x at =
    let same : y ≡ x = same_Some y x at in
    subst (λ z. superstates_before (y ∷ those) 1 ≡ superstates_before (y ∷ those) 0 + super_one z.is_superstate) same (omega arith)
before_one (y ∷ those) (suc n) x at = omega (arith, before_one those n x at)

before_all : (those : List StateOfText) (n : ℕ) (xs : List StateOfText) → StandAt those n xs →
    superstates_before those (n + length xs) ≡ superstates_before those n + supers xs
before_all those n [] h = subst (λ m. superstates_before those m ≡ superstates_before those n + 0) (sum_zero n) (omega arith)
  where
    sum_zero : (n : ℕ) → n ≡ n + 0
    sum_zero n = omega arith
before_all those n (x ∷ xs) h =
    let rest : superstates_before those (suc n + length xs) ≡ superstates_before those (suc n) + supers xs = before_all those (suc n) xs h.1 in
    subst (λ m. superstates_before those m ≡ superstates_before those n + supers (x ∷ xs)) (sum_suc n (length xs))
    (omega (arith, rest, before_one those n x h.0))
  where
    sum_suc : (n i : ℕ) → suc n + i ≡ n + suc i
    sum_suc n i = omega arith

module _ (those : List StateOfText) where
  -- these states stand in the text from here on, and the superstates before them are counted
  pub record Here (xs : List StateOfText) (at : NextNumbers) : Type 0 where
    pub stand : StandAt those at.state xs
    pub counted : at.superstate ≡ superstate_number those at.state

  -- what is made of these states, wherever they stand
  pub record StateIsMapped (p : StatePiece) (xs : List StateOfText) : Type 0 where
    pub many : p.states ≡ length xs
    pub numbered : p.superstates ≡ supers xs
    pub some : (n : ℕ) → StandAt those n xs → (x : StateOfText) × (slice_get those n ≡ Some x)
    pub mapped : (around : List Flags) (to : RegionPlaces) (place : ℕ) (begins : Bool) (at : NextNumbers) → Here xs at →
        MappedStates those (p.made around to place begins at).states (p.made around to place begins at).stands_for

  pub record RegionIsMapped (p : RegionPiece) (xs : List StateOfText) : Type 0 where
    pub many : p.states ≡ length xs
    pub numbered : p.superstates ≡ supers xs
    pub mapped : (around : List Flags) (counter : Option ℕ) (at : NextNumbers) → Here xs at →
        MappedRegions those (p.made around counter at).regions (p.made around counter at).stands_for

  here_first : (xs ys : List StateOfText) (at : NextNumbers) → Here (xs ++ ys) at → Here xs at
  here_first xs ys at h = record { stand = stand_first those at.state xs ys h.stand; counted = h.counted }

  here_second : (xs ys : List StateOfText) (at next : NextNumbers) → next.state ≡ at.state + length xs → next.superstate ≡ at.superstate + supers xs →
      Here (xs ++ ys) at → Here ys next
  here_second xs ys at next state superstate h = record {
    stand = stand_from those (at.state + length xs) next.state ys (sym state) (stand_second those at.state xs ys h.stand);
    counted =
        let all : superstates_before those (at.state + length xs) ≡ superstates_before those at.state + supers xs =
        before_all those at.state xs (stand_first those at.state xs ys h.stand) in
        subst (λ n. next.superstate ≡ superstate_number those n) (sym state) (omega (arith, all, superstate, h.counted));
  }

  -- ---- regions side by side

  abbrev pub AllMapped : List Region → Type 0
  AllMapped [] = Unit {0}
  AllMapped (r ∷ regions) = RegionIsMapped (piece_of_region r) (states_of_region r) × AllMapped regions

  many_in : (regions : List Region) → AllMapped regions → states_in (map piece_of_region regions) ≡ length (all_in (map states_of_region regions))
  many_in [] h = refl
  many_in (r ∷ regions) h =
      omega (arith, h.0.many, many_in regions h.1, length-append (states_of_region r) (all_in (map states_of_region regions)))

  numbered_in : (regions : List Region) → AllMapped regions → superstates_in (map piece_of_region regions) ≡ supers (all_in (map states_of_region regions))
  numbered_in [] h = refl
  numbered_in (r ∷ regions) h =
      omega (arith, h.0.numbered, numbered_in regions h.1, supers_append (states_of_region r) (all_in (map states_of_region regions)))

  pub regions_mapped : (regions : List Region) → AllMapped regions → (around : List Flags) (counter : Option ℕ) (at : NextNumbers) →
      Here (all_in (map states_of_region regions)) at →
      MappedRegions those (expanded_regions (map piece_of_region regions) around counter at).regions
      (expanded_regions (map piece_of_region regions) around counter at).stands_for
  regions_mapped [] h around counter at here = none_mapped those Region states_of_region tables.subtree_of_region
  regions_mapped (r ∷ regions) h around counter at here =
      let next : NextNumbers = past_region (weak_around around) (piece_of_region r) at in
      let own : Regions = (piece_of_region r).made around counter at in
      let rest : Regions = expanded_regions (map piece_of_region regions) around counter next in
      mapped_append those Region states_of_region tables.subtree_of_region own.regions rest.regions own.stands_for rest.stands_for
      (h.0.mapped around counter at (here_first (states_of_region r) (all_in (map states_of_region regions)) at here))
      (regions_mapped regions h.1 around counter next
      (here_second (states_of_region r) (all_in (map states_of_region regions)) at next (omega (arith, h.0.many)) (omega (arith, h.0.numbered)) here))

  -- ---- a state

  told_super : (regions : List Region) → is_some (map states_of_region regions) ≡ is_superstate (map piece_of_region regions)
  told_super [] = refl
  told_super (r ∷ regions) = refl

  watched_mapped : (b : Bool) (s : ℕ) (around : List Flags) (flags : Flags) (own : List Transition) →
      MappedRegions those (watched b (monitor s around flags own)) (if b then None ∷ None ∷ [] else [])
  watched_mapped false s around flags own = none_mapped those Region states_of_region tables.subtree_of_region
  watched_mapped true s around flags own =
      region_mapped those _ _ (None ∷ None ∷ [])
      (mapped_append those State states_of_state tables.subtree_of_state (_ ∷ []) (abandoned ∷ []) (None ∷ []) (None ∷ [])
      (simple_mapped those _ None (watches refl) refl) (simple_mapped those _ None (leaves refl) refl))

  -- a superstate of this row, where it stands, over what is inside it
  module _ (x : StateOfText) (at : NextNumbers) (there : slice_get those at.state ≡ Some x) (counted : at.superstate ≡ superstate_number those at.state)
      (super : x.is_superstate ≡ true) (own : List Transition) (around : List Flags) (flags : Flags) (inside : Regions)
      (mapped : MappedRegions those inside.regions inside.stands_for) (to : RegionPlaces) where
    forked_mapped : (place : ℕ) (begins : Bool) → MappedStates those (forked x.name own around flags inside to place begins at).states
        (forked x.name own around flags inside to place begins at).stands_for
    forked_mapped place begins =
        let more : List (Option ℕ) = if has_aborts own then None ∷ None ∷ [] else [] in
        mapped_append those State states_of_state tables.subtree_of_state (_ ∷ []) (_ ∷ []) (Some at.state ∷ (inside.stands_for ++ more)) (Some at.state ∷ [])
        (state_mapped those _ (Some at.state) (inside.stands_for ++ more) (itself at.state x there refl)
        (mapped_append those Region states_of_region tables.subtree_of_region inside.regions (watched (has_aborts own) (monitor at.superstate around flags own))
        inside.stands_for more mapped (watched_mapped (has_aborts own) at.superstate around flags own)))
        (simple_mapped those _ (Some at.state) (continues at.state x there super (ap continuation_name counted)) refl)

    superstate_mapped : (stay prepare : Bool) (regions place : ℕ) (begins : Bool) → let made : StatePieces =
        if stay
        then as_it_is x.name own inside to begins at
        else (if prepare
        then beside (prepared regions own flags to place begins at) (forked x.name own around flags inside to (suc place) false at)
        else forked x.name own around flags inside to place begins at) in MappedStates those made.states made.stands_for
    superstate_mapped true prepare regions place begins = state_mapped those _ (Some at.state) inside.stands_for (itself at.state x there refl) mapped
    superstate_mapped false false regions place begins = forked_mapped place begins
    superstate_mapped false true regions place begins =
        let more : StatePieces = forked x.name own around flags inside to (suc place) false at in
        mapped_append those State states_of_state tables.subtree_of_state (_ ∷ []) more.states (Some at.state ∷ []) more.stands_for
        (simple_mapped those _ (Some at.state) (prepares at.state x there super (ap preparation_name counted)) refl) (forked_mapped (suc place) false)

  simple_made : (x : StateOfText) (at : NextNumbers) → slice_get those at.state ≡ Some x → (final : Bool) (own : List Transition) (around : List Flags)
      (to : RegionPlaces) (begins : Bool) → MappedStates those (simple final x.name own around to begins ∷ []) (Some at.state ∷ [])
  simple_made x at there true own around to begins = simple_mapped those _ (Some at.state) (itself at.state x there refl) refl
  simple_made x at there false own around to begins = simple_mapped those _ (Some at.state) (itself at.state x there refl) refl

  inside_here : (x : StateOfText) (xs : List StateOfText) (at next : NextNumbers) → x.is_superstate ≡ true → next.state ≡ suc at.state →
      next.superstate ≡ suc at.superstate → Here (x ∷ xs) at → Here xs next
  inside_here x xs at next super state superstate h = record {
    stand = stand_from those (suc at.state) next.state xs (sym state) h.stand.1;
    counted = let one = before_one those at.state x h.stand.0 in
        subst (λ n. next.superstate ≡ superstate_number those n) (sym state)
        (omega (
          arith,
          superstate,
          h.counted,
          subst (λ b. superstates_before those (suc at.state) ≡ superstates_before those at.state + super_one b) super one,
        ));
  }

  abbrev layer_of : (name : List ℕ) (initial final : Bool) (regions : List Region) (own : List Transition) → State-F RegionPiece StatePiece
  layer_of name initial final regions own = record {
    name = name;
    is_initial = initial;
    is_final = final;
    regions = map piece_of_region regions;
    transitions = own;
  }

  layer_mapped : (name : List ℕ) (initial final : Bool) (regions : List Region) (own : List Transition) → AllMapped regions →
      StateIsMapped (state_piece (layer_of name initial final regions own))
      (record { name = name; is_superstate = is_some (map states_of_region regions) } ∷ all_in (map states_of_region regions))
  layer_mapped name initial final regions own all = record {
    many = ap suc (many_in regions all);
    numbered = omega (arith, numbered_in regions all, ap super_one (told_super regions));
    some = λ n stand. (_, stand.0);
    mapped = λ around to place begins at here. made_mapped regions all around to place begins at here;
  }
    where
      made_mapped : (regions : List Region) → AllMapped regions → (around : List Flags) (to : RegionPlaces) (place : ℕ) (begins : Bool) (at : NextNumbers) →
          Here (record { name = name; is_superstate = is_some (map states_of_region regions) } ∷ all_in (map states_of_region regions)) at →
          MappedStates those ((state_piece (layer_of name initial final regions own)).made around to place begins at).states
          ((state_piece (layer_of name initial final regions own)).made around to place begins at).stands_for
      made_mapped [] all around to place begins at here = simple_made _ at here.stand.0 final own around to begins
      made_mapped (r ∷ regions) all around to place begins at here =
          let flags : Flags = flags_of (weak_around around) own at.variable in
          superstate_mapped _ at here.stand.0 here.counted refl own around flags
          (inside_superstate (map piece_of_region (r ∷ regions)) own around flags at)
          (regions_mapped (r ∷ regions) all (around ++ flags ∷ []) flags.counter (within (weak_around around) own at)
          (inside_here _ (all_in (map states_of_region (r ∷ regions))) at (within (weak_around around) own at) refl refl refl here))
          to (stays around own) (is_prepared around own) (length (map piece_of_region (r ∷ regions))) place begins

  pub state_is_mapped : (s : State) → AllMapped (out-State s).regions → StateIsMapped (piece_of_state s) (states_of_state s)
  state_is_mapped s all =
      subst (λ p. StateIsMapped p (states_of_state s)) (sym (fold_out-State RegionPiece StatePiece region_piece state_piece s))
      (subst (StateIsMapped (state_piece (layer_of (out-State s).name (out-State s).is_initial (out-State s).is_final (out-State s).regions (out-State
      s).transitions))) (sym (fold_out-State (List StateOfText) (List StateOfText) told_of_region told_of_state s))
      (layer_mapped (out-State s).name (out-State s).is_initial (out-State s).is_final (out-State s).regions (out-State s).transitions all))

  -- ---- a region

  abbrev pub EachMapped : List State → Type 0
  EachMapped [] = Unit {0}
  EachMapped (s ∷ states) = StateIsMapped (piece_of_state s) (states_of_state s) × EachMapped states

  many_among : (states : List State) → EachMapped states → states_among (map piece_of_state states) ≡ length (all_in (map states_of_state states))
  many_among [] h = refl
  many_among (s ∷ states) h =
      omega (arith, h.0.many, many_among states h.1, length-append (states_of_state s) (all_in (map states_of_state states)))

  numbered_among : (states : List State) → EachMapped states → superstates_among (map piece_of_state states) ≡ supers (all_in (map states_of_state states))
  numbered_among [] h = refl
  numbered_among (s ∷ states) h =
      omega (arith, h.0.numbered, numbered_among states h.1, supers_append (states_of_state s) (all_in (map states_of_state states)))

  states_mapped : (anew : Bool) (states : List State) → EachMapped states → (around : List Flags) (to : RegionPlaces) (place : ℕ) (at : NextNumbers) →
      Here (all_in (map states_of_state states)) at →
      MappedStates those (expanded_states anew (map piece_of_state states) around to place at).states
      (expanded_states anew (map piece_of_state states) around to place at).stands_for
  states_mapped anew [] h around to place at here = none_mapped those State states_of_state tables.subtree_of_state
  states_mapped anew (s ∷ states) h around to place at here =
      let p : StatePiece = piece_of_state s in
      let next : NextNumbers = past_state (weak_around around) p at in
      let own : StatePieces = p.made around to place (p.is_initial && not anew) at in
      let rest : StatePieces = expanded_states anew (map piece_of_state states) around to (place + p.width around) next in
      mapped_append those State states_of_state tables.subtree_of_state own.states rest.states own.stands_for rest.stands_for
      (h.0.mapped around to place (p.is_initial && not anew) at (here_first (states_of_state s) (all_in (map states_of_state states)) at here))
      (states_mapped anew states h.1 around to (place + p.width around) next
      (here_second (states_of_state s) (all_in (map states_of_state states)) at next (omega (arith, h.0.many)) (omega (arith, h.0.numbered)) here))

  -- the state that is initial is one of the text
  initial_there : (states : List State) → EachMapped states → list_any (λ s. s.is_initial && s.is_final) (map piece_of_state states) ≡ true → (n : ℕ) →
      StandAt those n (all_in (map states_of_state states)) → (x : StateOfText) × (slice_get those (initial_number (map piece_of_state states) n) ≡ Some x)
  initial_there [] h some n stand = absurd cc
  initial_there (s ∷ states) h some n stand =
      by_first (piece_of_state s).is_initial (piece_of_state s).is_final some (λ later. initial_there states h.1 later (n + (piece_of_state s).states) rest)
    where
      p : StatePiece
      p = piece_of_state s

      rest : StandAt those (n + p.states) (all_in (map states_of_state states))
      rest = stand_from those (n + length (states_of_state s)) (n + p.states) (all_in (map states_of_state states)) (omega (arith, h.0.many))
          (stand_second those n (states_of_state s) (all_in (map states_of_state states)) stand)

      by_first : (initial final : Bool) →
          (initial && final) || list_any (λ s. s.is_initial && s.is_final) (map piece_of_state states) ≡ true →
          (list_any (λ s. s.is_initial && s.is_final) (map piece_of_state states) ≡ true →
          (x : StateOfText) × (slice_get those (initial_number (map piece_of_state states) (n + p.states)) ≡ Some x)) →
          (x : StateOfText) × (slice_get those (if initial then n else initial_number (map piece_of_state states) (n + p.states)) ≡ Some x)
      by_first true final some later = h.0.some n (stand_first those n (states_of_state s) (all_in (map states_of_state states)) stand)
      by_first false final some later = later some

  new_initial_mapped : (b : Bool) (counter : Option ℕ) (target number : ℕ) → (b ≡ true → (x : StateOfText) × (slice_get those number ≡ Some x)) →
      MappedStates those (new_initial b counter target number).states (new_initial b counter target number).stands_for
  new_initial_mapped true counter target number there =
      let x = there refl in simple_mapped those _ (Some number) (starts number x.0 x.1 refl) refl
  new_initial_mapped false counter target number there = none_mapped those State states_of_state tables.subtree_of_state

  left_behind_mapped : (b : Bool) → MappedStates those (left_behind b).states (left_behind b).stands_for
  left_behind_mapped true = simple_mapped those _ None (leaves refl) refl
  left_behind_mapped false = none_mapped those State states_of_state tables.subtree_of_state

  inside_mapped : (states : List State) → EachMapped states → (around : List Flags) (counter : Option ℕ) (begin : ℕ) (at : NextNumbers) →
      Here (all_in (map states_of_state states)) at →
      let pieces : List StatePiece = map piece_of_state states in
      let made : StatePieces = region_over (begins_anew counter pieces) pieces around counter begin at in MappedStates those made.states made.stands_for
  inside_mapped states h around counter begin at here =
      let pieces : List StatePiece = map piece_of_state states in
      let anew : Bool = begins_anew counter pieces in
      let first : StatePieces = new_initial anew counter (initial_place pieces around begin) (initial_number pieces at.state) in
      let text : StatePieces = expanded_states anew pieces around (region_places pieces around counter begin) begin at in
      let last : StatePieces = left_behind (aborts_around around) in
      mapped_append those State states_of_state tables.subtree_of_state first.states (text.states ++ last.states) first.stands_for
      (text.stands_for ++ last.stands_for)
      (new_initial_mapped anew counter (initial_place pieces around begin) (initial_number pieces at.state)
      (λ yes. initial_there states h (begins_where counter pieces yes) at.state here.stand))
      (mapped_append those State states_of_state tables.subtree_of_state text.states last.states text.stands_for last.stands_for
      (states_mapped anew states h around (region_places pieces around counter begin) begin at here) (left_behind_mapped (aborts_around around)))

  pub region_is_mapped : (r : Region) → EachMapped (out-Region r).states → RegionIsMapped (piece_of_region r) (states_of_region r)
  region_is_mapped r all =
      subst (λ p. RegionIsMapped p (states_of_region r)) (sym (fold_out-Region RegionPiece StatePiece region_piece state_piece r))
      (subst (RegionIsMapped (region_piece (record { name = (out-Region r).name; states = map piece_of_state (out-Region r).states })))
      (sym (fold_out-Region (List StateOfText) (List StateOfText) told_of_region told_of_state r))
      (record {
        many = many_among (out-Region r).states all;
        numbered = numbered_among (out-Region r).states all;
        mapped = λ around counter at here.
            region_mapped those (out-Region r).name _ _ (inside_mapped (out-Region r).states all around counter _ at here);
      }))

  -- ---- by how deep regions nest

  all_of : (regions : List Region) → ((i : ℕ) (r : Region) → slice_get regions i ≡ Some r → RegionIsMapped (piece_of_region r) (states_of_region r)) →
      AllMapped regions
  all_of [] h = tt
  all_of (r ∷ regions) h = (h 0 r refl, all_of regions (λ i q at. h (suc i) q at))

  each_of : (states : List State) → ((i : ℕ) (s : State) → slice_get states i ≡ Some s → StateIsMapped (piece_of_state s) (states_of_state s)) →
      EachMapped states
  each_of [] h = tt
  each_of (s ∷ states) h = (h 0 s refl, each_of states (λ i q at. h (suc i) q at))

  pub all_mapped : (f : Features) (variables : List Variable) (levels : ℕ) (regions : List Region) → AreRegions f variables levels regions →
      AllMapped regions
  all_mapped f variables zero regions rules = subst AllMapped (sym rules) tt
  all_mapped f variables (suc levels) regions rules =
      all_of regions
      (λ i r at.
      let region : IsRegion f variables (AreRegions f variables levels) r = rules.each i r at in
      region_is_mapped r (each_of (out-Region r).states
      (λ j s is. state_is_mapped s (all_mapped f variables levels (out-State s).regions (region.states j s is).regions))))

-- ---- the whole

entry_stands : (those xs : List StateOfText) (ms : List (Option ℕ)) → EachStandsFor those xs ms → (n : ℕ) (x : StateOfText) →
    slice_get xs n ≡ Some x → StandsFor those x.name (unwrap_or (slice_get ms n) None)
entry_stands those [] ms h n x at = absurd (none-some x at)
entry_stands those (y ∷ xs) [] h n x at = absurd h
entry_stands those (y ∷ xs) (m ∷ ms) h zero x at = subst (λ z. StandsFor those z.name m) (same_Some y x at) h.0
entry_stands those (y ∷ xs) (m ∷ ms) h (suc n) x at = entry_stands those xs ms h.1 n x at

pub states_mapped_all : StatesAreMapped
states_mapped_all c rules =
    let those : List StateOfText = states_of c in
    let mapped : MappedRegions those (expanded c).regions (state_map c) =
    regions_mapped those c.regions (all_mapped those features.Extended c.variables depth_limit c.regions rules.regions) [] None (whole (length c.variables))
    (record { stand = stand_all those; counted = refl }) in (
      sym (side_states (map tables.subtree_of_region (expanded c).regions) tables.whole mapped.sized ∙ mapped.many),
      as_many those (states_of (expanded c)) (state_map c) mapped.named,
      entry_stands those (states_of (expanded c)) (state_map c) mapped.named,
    )
