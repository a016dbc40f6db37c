-- A superstate, as it is or split, becomes states that keep the rules of core charts.
use Rattle.std.proofs.Common.{◌≡◌, ℕ, suc, ◌+◌, ◌≤◌, ◌^◌, inl, Bool, true, false, cond, ◌||◌, if◌then◌else◌, List, [], ◌∷◌, map, length, refl, ap, sym, subst}
use Rattle.std.proofs.Common.{◌∙◌, arith}
use Rattle.std.proofs.lemmas.Bool.{or_parts}
use Rattle.sc_graph.specs.declared.program.Variable.{Variable}
use Rattle.core_charts.specs.declared.features.Features.TheVariants as features
use Rattle.core_charts.specs.declared.region.Region.{Region}
use Rattle.core_charts.specs.declared.region.State.{State}
use Rattle.core_charts.specs.declared.region.Transition.{Transition}
use Rattle.core_charts.specs.declared.region.Region.TheViews.{roll-State, out-State}
use Rattle.core_charts.specs.Rules.{IsState, IsTransition, AreRegions, has_regions}
use Rattle.core_charts.specs.Aborts.{has_strong, has_weak, has_aborts}
use Rattle.sc_text.proofs.EachItem.{Each}
use Rattle.abort_expansion.specs.declared.flags.Flags.{Flags}
use Rattle.abort_expansion.specs.declared.places.RegionPlaces.{RegionPlaces}
use Rattle.abort_expansion.specs.declared.pieces.NextNumbers.{NextNumbers}
use Rattle.abort_expansion.specs.declared.pieces.Regions.{Regions}
use Rattle.abort_expansion.specs.declared.pieces.StatePieces.{StatePieces}
use Rattle.abort_expansion.specs.Flags.{one, is_there, flag_count, aborts_around, weak_around}
use Rattle.abort_expansion.specs.Transitions.{led}
use Rattle.abort_expansion.specs.Pieces.{superstates_in, variables_in, beside}
use Rattle.abort_expansion.specs.Superstates.{stays, is_prepared, as_it_is, split, superstate_over, prepared, forked}
use Rattle.abort_expansion.specs.Expansion.{piece_of_region, state_piece}
use Rattle.abort_expansion.proofs.Taken.{AreFlags}
use Rattle.abort_expansion.proofs.Leaving.{state_keeps}
use Rattle.abort_expansion.proofs.Apart.{Apart, text_is_named}
use Rattle.abort_expansion.proofs.Added.{Located, AreAdded, wider}
use Rattle.abort_expansion.proofs.Shapes.{IsNamed, rolled_named}
use Rattle.abort_expansion.proofs.Joined.{HasShape, IsOuter, StateKeeps, region_names}
use Rattle.abort_expansion.proofs.Inner.{inside_of, inside_added, inside_keeps, inside_named, side_by_side, as_many_names}
use Rattle.abort_expansion.proofs.Splitting.{IsSuperstate, sized, mine, still_some}
use Rattle.abort_expansion.proofs.Prepared.{split_shape, split_keeps, AreLocated}
use Rattle.abort_expansion.proofs.Staying.{stays_plain, no_flags, no_flag_count, led_all_keep, joins_led}

pub weak_none : (around : List Flags) → aborts_around around ≡ false → weak_around around ≡ false
weak_none [] h = refl
weak_none (f ∷ around) h =
    let both : ((is_there f.strong || is_there f.weak) ≡ false) × (aborts_around around ≡ false) = or_parts (is_there f.strong || is_there f.weak)
    (aborts_around around) h in
    let own : (is_there f.strong ≡ false) × (is_there f.weak ≡ false) = or_parts (is_there f.strong) (is_there f.weak) both.0 in
    rw own.1 (weak_none around both.1)

one_begins : (a c : Bool) → a ≡ c → cond a (1 + 0) 0 ≡ one c
one_begins true true is = refl
one_begins true false is = absurd cc
one_begins false true is = absurd cc
one_begins false false is = refl

added_lower : (s high m n : ℕ) (those : List Variable) → n ≡ m → AreAdded (suc s) high m those → AreAdded s high n those
added_lower s high m n those is h = record {
  many = h.many ∙ sym is;
  locals = h.locals;
  named = wider 256 (suc s) high s high (omega arith) (omega arith) (map (λ v. v.name) those) h.named;
  apart = h.apart;
}

staying_shape : (declared variables : List Variable) (levels m high : ℕ) (name : List ℕ) (regions : List Region) (own : List Transition) (around : List Flags)
    (to : RegionPlaces) (begins : Bool) (at : NextNumbers)
    → IsSuperstate declared variables levels m name regions own → has_aborts own ≡ false → aborts_around around ≡ false
    → high ≡ suc at.superstate + superstates_in (map piece_of_region regions) → high ≤ 2 ^ 64
    → HasShape (name ∷ []) at.superstate high 1 (one begins) (sized regions own around) (as_it_is name own (inside_of regions own around at) to begins at)
staying_shape declared variables levels m high name regions own around to begins at h plain outside is small =
    let s : ℕ = at.superstate in
    let inside : Regions = inside_of regions own around at in
    let made : State = roll-State (record { name = name; is_initial = begins; is_final = false; regions = inside.regions; transitions = map (led to) own }) in
    let named : IsNamed name begins made = rolled_named name begins false inside.regions (map (led to) own) in
    let more : ℕ = variables_in (weak_around around || has_weak own) (map piece_of_region regions) in
    let inner : AreAdded (suc s) high more inside.variables =
    subst (λ n. AreAdded (suc s) n more inside.variables) (sym is) (inside_added variables levels regions own around at h.inner (omega (arith, is, small))) in
    record {
      wide = refl;
      begins = one_begins (out-State made).is_initial begins named.begins_is;
      called = (inl (inl named.name_is), tt);
      apart = (tt, tt);
      added = added_lower s high more (sized regions own around) inside.variables
          (omega (arith, no_flag_count (weak_around around) own plain (weak_none around outside))) inner;
    }

staying_keeps : (declared variables : List Variable) (levels m n : ℕ) (name : List ℕ) (regions : List Region) (own : List Transition) (around : List Flags)
    (to : RegionPlaces) (begins : Bool) (at : NextNumbers)
    → IsSuperstate declared variables levels m name regions own → has_regions regions ≡ true → has_aborts own ≡ false → aborts_around around ≡ false
    → suc at.superstate + superstates_in (map piece_of_region regions) ≤ 2 ^ 64
    → IsOuter variables m n around to → Located variables at.variable (inside_of regions own around at).variables
    → Each (IsState features.Core variables (AreRegions features.Core variables (suc levels)) n)
    (as_it_is name own (inside_of regions own around at) to begins at).states
staying_keeps declared variables levels m n name regions own around to begins at h some plain outside small outer located =
    let inside : Regions = inside_of regions own around at in
    let weak : weak_around around ≡ false = weak_none around outside in
    let aborts : (has_strong own ≡ false) × (has_weak own ≡ false) = or_parts (has_strong own) (has_weak own) plain in
    let here : AreFlags variables (mine own around at) = no_flags variables (weak_around around) own at.variable plain weak in
    let there : Located variables (at.variable + flag_count (weak_around around) own) inside.variables =
    subst (λ x. Located variables x inside.variables) (omega (arith, no_flag_count (weak_around around) own plain weak)) located in
    let names : region_names inside.regions ≡ region_names regions = inside_named variables levels regions own around at h.inner in
    let few : length inside.regions ≤ 64 =
    omega (arith, sym (as_many_names inside.regions) ∙ ap (λ ns. length ns) names ∙ as_many_names regions, h.few) in
    let sides : AreRegions features.Core variables (suc levels) inside.regions =
    side_by_side variables levels inside.regions few (subst Apart (sym names) h.apart)
    (inside_keeps variables levels regions own around at h.inner small outer.flags here there) in
    let super : true ≡ has_regions inside.regions = sym (still_some regions inside.regions names some) in (
      state_keeps variables (suc levels) n
          (record { name = name; is_initial = begins; is_final = false; regions = inside.regions; transitions = map (led to) own })
          (text_is_named name h.text) (λ is. absurd cc) sides (joins_led to own h.joins)
          (subst (λ b. Each (IsTransition features.Core variables n b) (map (led to) own)) super
          (led_all_keep declared variables m n to own outer.places h.taken aborts.0 aborts.1)),
      tt,
    )

-- ---- either way

either_shape : (b : Bool) (declared variables : List Variable) (levels m high : ℕ) (name : List ℕ) (regions : List Region) (own : List Transition)
    (around : List Flags) (to : RegionPlaces) (place : ℕ) (begins : Bool) (at : NextNumbers)
    → stays around own ≡ b → IsSuperstate declared variables levels m name regions own
    → high ≡ suc at.superstate + superstates_in (map piece_of_region regions) → high ≤ 2 ^ 64
    → HasShape (name ∷ []) at.superstate high (if b then 1 else if is_prepared around own then 3 else 2) (one begins) (sized regions own around)
    (if b
    then as_it_is name own (inside_of regions own around at) to begins at
    else split name (length regions) own around (mine own around at) (inside_of regions own around at) to place begins at)
either_shape true declared variables levels m high name regions own around to place begins at stay h is small =
    let plain : (has_aborts own ≡ false) × (aborts_around around ≡ false) = stays_plain (has_aborts own) (aborts_around around) stay in
    staying_shape declared variables levels m high name regions own around to begins at h plain.0 plain.1 is small
either_shape false declared variables levels m high name regions own around to place begins at stay h is small =
    split_shape (is_prepared around own) declared variables levels m high name regions own around to place begins at h is small

located_either : (c : Bool) (variables : List Variable) (regions : List Region) (own : List Transition) (around : List Flags) (name : List ℕ)
    (to : RegionPlaces)
    (place : ℕ) (begins : Bool) (at : NextNumbers)
    → Located variables at.variable
    (if c
    then beside (prepared (length regions) own (mine own around at) to place begins at)
    (forked name own around (mine own around at) (inside_of regions own around at) to (suc place) false at)
    else forked name own around (mine own around at) (inside_of regions own around at) to place begins at).variables
    → AreLocated variables regions own around at
located_either true variables regions own around name to place begins at h = h
located_either false variables regions own around name to place begins at h = h

either_keeps : (b : Bool) (declared variables : List Variable) (levels m n : ℕ) (name : List ℕ) (regions : List Region) (own : List Transition)
    (around : List Flags) (to : RegionPlaces) (place : ℕ) (begins : Bool) (at : NextNumbers)
    → stays around own ≡ b → IsSuperstate declared variables levels m name regions own → has_regions regions ≡ true
    → suc at.superstate + superstates_in (map piece_of_region regions) ≤ 2 ^ 64
    → IsOuter variables m n around to → place + (if b then 1 else if is_prepared around own then 3 else 2) ≤ n
    → Located variables at.variable
    (if b
    then as_it_is name own (inside_of regions own around at) to begins at
    else split name (length regions) own around (mine own around at) (inside_of regions own around at) to place begins at).variables
    → Each (IsState features.Core variables (AreRegions features.Core variables (suc levels)) n)
    (if b
    then as_it_is name own (inside_of regions own around at) to begins at
    else split name (length regions) own around (mine own around at) (inside_of regions own around at) to place begins at).states
either_keeps true declared variables levels m n name regions own around to place begins at stay h some small outer within located =
    let plain : (has_aborts own ≡ false) × (aborts_around around ≡ false) = stays_plain (has_aborts own) (aborts_around around) stay in
    staying_keeps declared variables levels m n name regions own around to begins at h some plain.0 plain.1 small outer located
either_keeps false declared variables levels m n name regions own around to place begins at stay h some small outer within located =
    split_keeps (is_prepared around own) declared variables levels m n name regions own around to place begins at h some small outer within
    (located_either (is_prepared around own) variables regions own around name to place begins at located)

least_width : (b c : Bool) → 1 ≤ (if b then 1 else if c then 3 else 2)
least_width true c = omega arith
least_width false true = omega arith
least_width false false = omega arith

pub as_many : (regions : List Region) → length (map piece_of_region regions) ≡ length regions
as_many [] = refl
as_many (r ∷ regions) = ap suc (as_many regions)

pub superstate_piece_keeps : (declared variables : List Variable) (levels m : ℕ) (is_initial is_final : Bool) (name : List ℕ) (r : Region) (rs : List Region)
    (own : List Transition)
    → IsSuperstate declared variables levels m name (r ∷ rs) own
    → StateKeeps variables (suc levels) m name
    (state_piece (record { name = name; is_initial = is_initial; is_final = is_final; regions = map piece_of_region (r ∷ rs); transitions = own }))
superstate_piece_keeps declared variables levels m is_initial is_final name r rs own h =
    let regions : List Region = r ∷ rs in
    let Over : ℕ → List Flags → RegionPlaces → ℕ → Bool → NextNumbers → StatePieces =
    λ n around to place begins at. superstate_over name n own around (mine own around at) (inside_of regions own around at) to place begins at in
    let same : length regions ≡ length (map piece_of_region regions) = sym (as_many regions) in
    record {
      least = λ around. least_width (stays around own) (is_prepared around own);
      shape = λ around to place begins at small.
          subst
          (λ n. HasShape (name ∷ []) at.superstate (at.superstate + (1 + superstates_in (map piece_of_region regions)))
          (if stays around own then 1 else if is_prepared around own then 3 else 2) (one begins) (sized regions own around) (Over n around to place begins at))
          same
          (either_shape (stays around own) declared variables levels m (at.superstate + (1 + superstates_in (map piece_of_region regions))) name regions own
          around to place begins at refl h (omega arith) small);
      keeps = λ n around to place begins at small outer within located.
          subst (λ k. Each (IsState features.Core variables (AreRegions features.Core variables (suc levels)) n) (Over k around to place begins at).states) same
          (either_keeps (stays around own) declared variables levels m n name regions own around to place begins at refl h refl
          (omega (arith, small)) outer within
          (subst (λ k. Located variables at.variable (Over k around to place begins at).variables) (sym same) located));
    }
