-- The variables that the expansion adds are local ones.
use Rattle.std.proofs.Common.{ℕ, zero, suc, ◌+◌, Bool, true, false, not, ◌&&◌, Option, Some}
use Rattle.std.proofs.Common.{None, List, [], ◌∷◌, ◌++◌, map, length, refl, sym, subst, if◌then◌else◌}
use Rattle.sc_graph.specs.declared.program.Variable.{Variable}
use Rattle.core_charts.specs.declared.features.Features.{Features}
use Rattle.core_charts.specs.declared.features.Features.TheVariants as features
use Rattle.core_charts.specs.declared.region.Region.{Region}
use Rattle.core_charts.specs.declared.region.Region.TheViews.{out-Region, out-State}
use Rattle.core_charts.specs.declared.region.Region.TheFolds.{fold_out-Region, fold_out-State}
use Rattle.core_charts.specs.declared.region.State.{State}
use Rattle.core_charts.specs.declared.region.Transition.{Transition}
use Rattle.core_charts.specs.Chart.{Chart}
use Rattle.core_charts.specs.Rules.{IsChart, IsRegion, AreRegions, depth_limit}
use Rattle.sc_text.proofs.EachItem.{each_of}
use Rattle.sc_text.proofs.EachItem as items
use Rattle.abort_expansion.specs.declared.flags.Flags.{Flags}
use Rattle.abort_expansion.specs.declared.places.RegionPlaces.{RegionPlaces}
use Rattle.abort_expansion.specs.declared.pieces.StatePieces.{StatePieces}
use Rattle.abort_expansion.specs.declared.pieces.Regions.{Regions}
use Rattle.abort_expansion.specs.declared.pieces.NextNumbers.{NextNumbers}
use Rattle.abort_expansion.specs.Flags.{declared, declarations, strong_flag_name, weak_flag_name, counter_name, weak_around, flags_of, aborts_around}
use Rattle.abort_expansion.specs.Pieces.{RegionPiece, StatePiece, beside, expanded_regions, past_region}
use Rattle.abort_expansion.specs.Superstates.{stays, is_prepared, as_it_is, prepared, forked, within}
use Rattle.abort_expansion.specs.Expansion.{piece_of_region, piece_of_state, region_piece, state_piece, expanded_states, past_state, begins_anew, new_initial}
use Rattle.abort_expansion.specs.Expansion.{initial_place, initial_number, left_behind, region_places, expansion, whole}
use Rattle.abort_expansion_laws.specs.Related.{Each}
use Rattle.abort_expansion_laws.proofs.WokenConfigurations.{IsLocal}

abbrev AreLocal : List Variable → Type 0
AreLocal xs = Each IsLocal xs

local_append : (xs ys : List Variable) → AreLocal xs → AreLocal ys → AreLocal (xs ++ ys)
local_append [] ys h more = more
local_append (x ∷ xs) ys h more = (h.0, local_append xs ys h.1 more)

declared_local : (o : Option ℕ) (name : List ℕ) → AreLocal (declared o name)
declared_local (Some x) name = (refl, tt)
declared_local None name = tt

declarations_local : (s : ℕ) (f : Flags) → AreLocal (declarations s f)
declarations_local s f =
    local_append (declared f.strong (strong_flag_name s) ++ declared f.weak (weak_flag_name s)) (declared f.counter (counter_name s))
    (local_append (declared f.strong (strong_flag_name s)) (declared f.weak (weak_flag_name s)) (declared_local f.strong (strong_flag_name s))
    (declared_local f.weak (weak_flag_name s)))
    (declared_local f.counter (counter_name s))

abbrev RegionLocalBy : RegionPiece → Type 0
RegionLocalBy x = (flags : List Flags) (counter : Option ℕ) (numbers : NextNumbers) → AreLocal (x.made flags counter numbers).variables

abbrev RegionLocal : Region → Type 0
RegionLocal r = RegionLocalBy (piece_of_region r)

abbrev StateLocalBy : StatePiece → Type 0
StateLocalBy x =
    (flags : List Flags) (to : RegionPlaces) (place : ℕ) (begins : Bool) (numbers : NextNumbers) → AreLocal (x.made flags to place begins numbers).variables

abbrev StateLocal : State → Type 0
StateLocal s = StateLocalBy (piece_of_state s)

side_local : (regions : List Region) → items.Each RegionLocal regions → (flags : List Flags) (counter : Option ℕ) (numbers : NextNumbers) →
    AreLocal (expanded_regions (map piece_of_region regions) flags counter numbers).variables
side_local [] each flags counter numbers = tt
side_local (r ∷ regions) each flags counter numbers =
    local_append ((piece_of_region r).made flags counter numbers).variables _ (each.0 flags counter numbers)
    (side_local regions each.1 flags counter (past_region (weak_around flags) (piece_of_region r) numbers))

super_local : (name : List ℕ) (n : ℕ) (all : List Transition) (flags : List Flags) (f : Flags) (inside : Regions) (to : RegionPlaces) (place : ℕ)
    (begins : Bool)
    (numbers : NextNumbers) → AreLocal inside.variables → (s p : Bool) → let made : StatePieces =
    if s
    then as_it_is name all inside to begins numbers
    else (if p
    then beside (prepared n all f to place begins numbers) (forked name all flags f inside to (suc place) false numbers)
    else forked name all flags f inside to place begins numbers) in AreLocal made.variables
super_local name n all flags f inside to place begins numbers h true p = h
super_local name n all flags f inside to place begins numbers h false true =
    local_append (declarations numbers.superstate f) inside.variables (declarations_local numbers.superstate f) h
super_local name n all flags f inside to place begins numbers h false false =
    local_append (declarations numbers.superstate f) inside.variables (declarations_local numbers.superstate f) h

layer_local : (name : List ℕ) (initial final : Bool) (regions : List Region) (all : List Transition) → items.Each RegionLocal regions →
    StateLocalBy (state_piece (record { name = name; is_initial = initial; is_final = final; regions = map piece_of_region regions; transitions = all }))
layer_local name initial final [] all each flags to place begins numbers = tt
layer_local name initial final (r ∷ regions) all each flags to place begins numbers =
    let f : Flags = flags_of (weak_around flags) all numbers.variable in
    let at : NextNumbers = within (weak_around flags) all numbers in
    super_local name (length (map piece_of_region (r ∷ regions))) all flags f
    (expanded_regions (map piece_of_region (r ∷ regions)) (flags ++ f ∷ []) f.counter at) to place begins numbers
    (side_local (r ∷ regions) each (flags ++ f ∷ []) f.counter at) (stays flags all) (is_prepared flags all)

states_local : (anew : Bool) (states : List State) → items.Each StateLocal states → (flags : List Flags) (to : RegionPlaces) (place : ℕ)
    (numbers : NextNumbers) →
    AreLocal (expanded_states anew (map piece_of_state states) flags to place numbers).variables
states_local anew [] each flags to place numbers = tt
states_local anew (s ∷ states) each flags to place numbers =
    let x : StatePiece = piece_of_state s in
    local_append (x.made flags to place (x.is_initial && not anew) numbers).variables _ (each.0 flags to place (x.is_initial && not anew) numbers)
    (states_local anew states each.1 flags to (place + x.width flags) (past_state (weak_around flags) x numbers))

new_local : (anew : Bool) (counter : Option ℕ) (target number : ℕ) → AreLocal (new_initial anew counter target number).variables
new_local true counter target number = tt
new_local false counter target number = tt

left_local : (has : Bool) → AreLocal (left_behind has).variables
left_local true = tt
left_local false = tt

region_local : (name : List ℕ) (states : List State) → items.Each StateLocal states →
    RegionLocalBy (region_piece (record { name = name; states = map piece_of_state states }))
region_local name states each flags counter numbers =
    let xs : List StatePiece = map piece_of_state states in
    let anew : Bool = begins_anew counter xs in
    let begin : ℕ = Rattle.abort_expansion.specs.Flags.one anew in
    local_append (new_initial anew counter (initial_place xs flags begin) (initial_number xs numbers.state)).variables _
    (new_local anew counter (initial_place xs flags begin) (initial_number xs numbers.state))
    (local_append (expanded_states anew xs flags (region_places xs flags counter begin) begin numbers).variables _
    (states_local anew states each flags (region_places xs flags counter begin) begin numbers) (left_local (aborts_around flags)))

regions_local : (f : Features) (variables : List Variable) (levels : ℕ) (regions : List Region) → AreRegions f variables levels regions →
    items.Each RegionLocal regions
regions_local f variables zero regions rules = subst (items.Each RegionLocal) (sym rules) tt
regions_local f variables (suc levels) regions rules =
    each_of RegionLocal regions (λ n r is. one r (rules.each n r is) (λ rs inner. regions_local f variables levels rs inner))
  where
    one_state : (s : State) → items.Each RegionLocal (out-State s).regions → StateLocal s
    one_state s each =
        let o = out-State s in
        subst StateLocalBy (sym (fold_out-State RegionPiece StatePiece region_piece state_piece s))
        (layer_local o.name o.is_initial o.is_final o.regions o.transitions each)

    one : (r : Region) → IsRegion f variables (AreRegions f variables levels) r →
        ((rs : List Region) → AreRegions f variables levels rs → items.Each RegionLocal rs) → RegionLocal r
    one r region inner =
        subst RegionLocalBy (sym (fold_out-Region RegionPiece StatePiece region_piece state_piece r))
        (region_local (out-Region r).name (out-Region r).states
        (each_of StateLocal (out-Region r).states (λ j s is. one_state s (inner (out-State s).regions (region.states j s is).regions))))

pub added_are_local : (c : Chart) → IsChart features.Extended c → Each IsLocal (expansion c).variables
added_are_local c rules =
    side_local c.regions (regions_local features.Extended c.variables depth_limit c.regions rules.regions) [] None (whole (length c.variables))
