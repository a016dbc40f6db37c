-- What the expansion makes of a chart comes from its origins.
use Rattle.std.proofs.Common.{◌≡◌, ℕ, zero, suc, ◌+◌, true, false, Some, None, List, [], ◌∷◌, map, length, slice_get, refl}
use Rattle.std.proofs.Common.{sym, ap, subst, ◌∙◌, arith}
use Rattle.std.specs.Prelude.{unwrap_or}
use Rattle.sc_graph.specs.declared.program.Variable.{Variable}
use Rattle.sc_text.proofs.EachItem.{Each, each_of}
use Rattle.core_charts.specs.declared.features.Features.TheVariants as features
use Rattle.core_charts.specs.declared.region.Region.{Region}
use Rattle.core_charts.specs.declared.region.State.{State}
use Rattle.core_charts.specs.declared.region.Region.TheOpen.{State-F}
use Rattle.core_charts.specs.declared.region.Region.TheViews.{out-Region, out-State}
use Rattle.core_charts.specs.declared.region.Region.TheFolds.{fold_out-Region, fold_out-State}
use Rattle.core_charts.specs.Chart.{Chart}
use Rattle.core_charts.specs.Rules.{AreRegions, IsChart, IsRegion, IsState, depth_limit}
use Rattle.core_charts.specs.declared.elements.element.Element.{Element}
use Rattle.core_charts.specs.declared.elements.element.Element.TheVariants as element
use Rattle.core_charts.specs.Elements.{Contents, all_effects, contents}
use Rattle.core_charts.proofs.Pieces.{in_regions, in_states, of_one_region, of_one_state, placed_whole, region_alone, region_parts, region_passes}
use Rattle.core_charts.proofs.Pieces.{state_alone, state_parts, within_pass}
use Rattle.core_charts.specs.Numbers.{first, within_region, within_state}
use Rattle.abort_expansion.specs.declared.pieces.StatePieces.{StatePieces}
use Rattle.abort_expansion.specs.Pieces as pieces
use Rattle.abort_expansion.specs.Expansion.{expansion, state_map}
use Rattle.abort_expansion.specs.Expansion as exp
use Rattle.abort_expansion.specs.StateMap.{chart_state}
use Rattle.node_elements.specs.declared.expansion.origins.Origins.{Origins}
use Rattle.node_elements.specs.ExpansionOrigins.{RegionPiece, StatePiece, behind_regions, behind_states, beside, expansion_origins, inside_region}
use Rattle.node_elements.specs.ExpansionOrigins.{piece_of_region, piece_of_state, region_piece, state_origins, state_piece}
use Rattle.node_elements.specs.ExpansionOrigins as origin
use Rattle.node_elements.specs.ExpansionLaws.{EffectFrom, OriginsTellExpansion, RegionFrom, StandsForNamed, StateFrom, TransitionFrom, is_added}
use Rattle.node_elements.specs.ExpansionLaws.{state_of}
use Rattle.core_charts.proofs.Standing.{Passes, Placed, below, both, passes_both, placed_behind}
use Rattle.node_elements.proofs.Coming.{Comes, Pairs, both_come, one_region, pairs_tell}
use Rattle.node_elements.proofs.Shapes.{region_holds}
use Rattle.node_elements.proofs.SuperstateOrigins.{of_inside, of_those}
use Rattle.node_elements.proofs.RegionOrigins.{RegionTells, StateTells, inside_comes}
use Rattle.node_elements.proofs.RegionOrigins.{regions_come, regions_many, regions_pass, state_comes, states_many, states_pass}

-- ---- states

state_tells : (variables : List Variable) (levels count : ℕ) →
    ((regions : List Region) → AreRegions features.Extended variables levels regions → Each RegionTells regions) →
    (s : State) → IsState features.Extended variables (AreRegions features.Extended variables levels) count s → StateTells s
state_tells variables levels count inner s h =
    let o : State-F Region State = out-State s in
    let each : Each RegionTells o.regions = inner o.regions h.regions in
    let head : Contents = state_alone o.name o.transitions in
    let rest : Contents = in_regions o.regions in
    let mine : piece_of_state s ≡ state_piece (record {
      name = o.name;
      is_initial = o.is_initial;
      is_final = o.is_final;
      regions = map piece_of_region o.regions;
      transitions = o.transitions;
    }) = fold_out-State RegionPiece StatePiece region_piece state_piece s in
    let theirs : exp.piece_of_state s ≡ exp.state_piece (record {
      name = o.name;
      is_initial = o.is_initial;
      is_final = o.is_final;
      regions = map exp.piece_of_region o.regions;
      transitions = o.transitions;
    }) = fold_out-State pieces.RegionPiece pieces.StatePiece exp.region_piece exp.state_piece s in
    let held : of_one_state s ≡ both head rest = state_parts s in
    let passes : Passes (both head rest) (λ at. behind_regions (map piece_of_region o.regions) (within_state o.transitions at)) =
    passes_both head rest (within_state o.transitions) (behind_regions (map piece_of_region o.regions)) (within_pass o.name o.transitions)
    (regions_pass o.regions each) in
    record {
      initial = ap (λ p. p.is_initial) theirs ∙ sym (ap (λ p. p.is_initial) mine);
      final = ap (λ p. p.is_final) theirs ∙ sym (ap (λ p. p.is_final) mine);
      passes = subst (λ c. Passes c (piece_of_state s).behind) (sym held) (subst (λ p. Passes (both head rest) p.behind) (sym mine) passes);
      many = λ at.
          let within : Passes head (within_state o.transitions) = within_pass o.name o.transitions in
          let is : (behind_regions (map piece_of_region o.regions) (within_state o.transitions at)).state ≡
          at.state + suc (pieces.states_in (map exp.piece_of_region o.regions)) =
          omega (arith, regions_many o.regions each (within_state o.transitions at), within.state at) in
          ap (λ p. (p.behind at).state) mine ∙ is ∙ sym (ap (λ p. at.state + p.states) theirs);
      here = λ all at placed.
          let known : Placed all at (both head rest) = subst (Placed all at) held placed in
          below all.states at.state o.name known.states.0;
      comes = λ all fs bs to ends place begins at before same within placed.
          subst (λ p. Comes all (of_those ((exp.piece_of_state s).made fs to place begins before)) (p.origins bs ends at)) (sym mine)
          (subst
          (λ p. Comes all (of_those (p.made fs to place begins before))
          (state_origins o.is_final (map piece_of_region o.regions) o.transitions bs ends at)) (sym theirs)
          (state_comes all fs bs to ends o.is_initial o.is_final o.name o.regions o.transitions place begins at before each same within
          (subst (Placed all at) held placed)));
    }

-- ---- regions

region_tells : (variables : List Variable) (levels : ℕ) →
    ((regions : List Region) → AreRegions features.Extended variables levels regions → Each RegionTells regions) →
    (r : Region) → IsRegion features.Extended variables (AreRegions features.Extended variables levels) r → RegionTells r
region_tells variables levels inner r h =
    let name : List ℕ = (out-Region r).name in
    let states : List State = (out-Region r).states in
    let each : Each StateTells states =
    each_of StateTells states (λ i s there. state_tells variables levels (length states) inner s (h.states i s there)) in
    let head : Contents = region_alone name in
    let rest : Contents = in_states states in
    let mine : piece_of_region r ≡ region_piece (record { name = name; states = map piece_of_state states }) =
    fold_out-Region RegionPiece StatePiece region_piece state_piece r in
    let theirs : exp.piece_of_region r ≡ exp.region_piece (record { name = name; states = map exp.piece_of_state states }) =
    fold_out-Region pieces.RegionPiece pieces.StatePiece exp.region_piece exp.state_piece r in
    let held : of_one_region r ≡ both head rest = region_parts r in
    let passes : Passes (both head rest) (λ at. behind_states (map piece_of_state states) (within_region at)) =
    passes_both head rest within_region (behind_states (map piece_of_state states)) (region_passes name) (states_pass states each) in
    record {
      passes = subst (λ c. Passes c (piece_of_region r).behind) (sym held) (subst (λ p. Passes (both head rest) p.behind) (sym mine) passes);
      many = λ at.
          ap (λ p. (p.behind at).state) mine ∙ states_many states each (within_region at) ∙ sym (ap (λ p. at.state + p.states) theirs);
      comes = λ all fs bs counter counts at before same counted encloses placed.
          let known : Placed all at (both head rest) = subst (Placed all at) held placed in
          let inside : StatePieces = exp.inside_region (map exp.piece_of_state states) fs counter before in
          let within : Origins = inside_region (map piece_of_state states) bs counts (element.Region at.region) (within_region at) in
          subst (λ p. Comes all (of_inside ((exp.piece_of_region r).made fs counter before)) (p.origins bs counts at)) (sym mine)
          (subst (λ p. Comes all (of_inside (p.made fs counter before)) (beside (origin.region (element.Region at.region)) within)) (sym theirs)
          (region_holds all name inside.states inside.stands_for (beside (origin.region (element.Region at.region)) within)
          (both_come all (one_region name) (of_those inside) (origin.region (element.Region at.region)) within
          (record { regions = (known.regions.0, tt); states = tt; transitions = tt; effects = tt; stands = refl })
          (inside_comes all fs bs counter counts states each at.region (within_region at) before same counted encloses
          (placed_behind all at head rest within_region (region_passes name) known) (below all.regions at.region name known.regions.0)))));
    }

-- regions that nest this many levels deep
regions_tell : (variables : List Variable) (levels : ℕ) (regions : List Region) → AreRegions features.Extended variables levels regions →
    Each RegionTells regions
regions_tell variables zero regions h = subst (Each RegionTells) (sym h) tt
regions_tell variables (suc levels) regions h =
    each_of RegionTells regions (λ i r there. region_tells variables levels (regions_tell variables levels) r (h.each i r there))

-- ---- the chart

chart_tells : (c : Chart) → IsChart features.Extended c → Comes (contents c) (of_inside (expansion c)) (expansion_origins c)
chart_tells c h =
    regions_come (contents c) [] [] None false c.regions (regions_tell c.variables depth_limit c.regions h.regions) first
    (exp.whole (length c.variables)) refl refl tt
    (placed_whole c)

-- the origin of a thing
found : {A : Type 0} (From : Element → A → Type 0) (os : List Element) (xs : List A) → Pairs From os xs → (k : ℕ) (x : A) →
    slice_get xs k ≡ Some x → (o : Element) × (slice_get os k ≡ Some o) × From o x
found From [] [] h k x there = absurd cc
found From [] (y ∷ xs) h k x there = absurd h
found From (o ∷ os) [] h k x there = absurd h
found From (o ∷ os) (y ∷ xs) h zero x there = let same : y ≡ x = cc in (o, refl, subst (From o) same h.0)
found From (o ∷ os) (y ∷ xs) h (suc k) x there = found From os xs h.1 k x there

get_mapped : (os : List Element) (k : ℕ) (o : Element) → slice_get os k ≡ Some o → slice_get (map state_of os) k ≡ Some (state_of o)
get_mapped [] k o there = absurd cc
get_mapped (p ∷ os) zero o there = let same : p ≡ o = cc in ap (λ q. Some (state_of q)) same
get_mapped (p ∷ os) (suc k) o there = get_mapped os k o there

stands_named : (c : Chart) (k : ℕ) (name : List ℕ) (o : Element) → chart_state (state_map c) k ≡ state_of o → StateFrom (contents c) o name →
    is_added name ≡ false → StandsForNamed c k name
stands_named c k name (element.State n) stands from plain = record { state = n; stands = stands; named = from.1 plain }
stands_named c k name (element.Transition n) stands from plain = absurd (differ (sym from.0 ∙ plain))
  where
    differ : true ≡ false → ⊥
    differ e = cc
stands_named c k name (element.Region n) stands from plain = absurd (differ (sym from.0 ∙ plain))
  where
    differ : true ≡ false → ⊥
    differ e = cc
stands_named c k name (element.Effect n) stands from plain = absurd from
stands_named c k name element.Chart stands from plain = absurd from

pub origins_tell : OriginsTellExpansion
origins_tell c h =
    let tells : Comes (contents c) (of_inside (expansion c)) (expansion_origins c) = chart_tells c h in
    let os : Origins = expansion_origins c in
    record {
      regions = pairs_tell (RegionFrom (contents c)) os.regions (of_inside (expansion c)).regions tells.regions;
      states = pairs_tell (StateFrom (contents c)) os.states (of_inside (expansion c)).states tells.states;
      transitions = pairs_tell (TransitionFrom (contents c)) os.transitions (of_inside (expansion c)).transitions tells.transitions;
      effects = pairs_tell (EffectFrom (contents c)) os.effects (all_effects (of_inside (expansion c)).transitions) tells.effects;
      stand = tells.stands;
      named = λ k name there plain.
          let at : (o : Element) × (slice_get os.states k ≡ Some o) × StateFrom (contents c) o name =
          found (StateFrom (contents c)) os.states (of_inside (expansion c)).states tells.states k name there in
          let stands : chart_state (state_map c) k ≡ state_of at.0 =
          ap (λ ss. chart_state ss k) tells.stands ∙ ap (λ s. unwrap_or s None) (get_mapped os.states k at.0 at.1) in
          stands_named c k name at.0 stands at.2 plain;
    }
