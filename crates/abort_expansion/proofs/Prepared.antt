-- A superstate that is split, with a preparation state or without one, keeps the rules of core charts.
use Rattle.std.specs.Prelude.{decimal}
use Rattle.std.proofs.Common.{◌≡◌, ℕ, suc, ◌+◌, ◌≤◌, ◌^◌, inr, Bool, true, false, cond, sym, if◌then◌else◌, List, [], ◌∷◌, ◌++◌, map, length, refl, arith}
use Rattle.sc_graph.specs.declared.program.Variable.{Variable}
use Rattle.core_charts.specs.declared.features.Features.TheVariants as features
use Rattle.core_charts.specs.declared.region.Region.{Region}
use Rattle.core_charts.specs.declared.region.State.{State}
use Rattle.core_charts.specs.declared.region.Transition.{Transition}
use Rattle.core_charts.specs.declared.region.Region.TheViews.{out-State}
use Rattle.core_charts.specs.Rules.{IsState, AreRegions, has_regions}
use Rattle.core_charts.specs.Aborts.{has_aborts}
use Rattle.sc_text.proofs.AddedNames.{added_is_named}
use Rattle.sc_text.proofs.EachItem.{Each}
use Rattle.abort_expansion.specs.declared.flags.Flags.{Flags}
use Rattle.abort_expansion.specs.declared.places.RegionPlaces.{RegionPlaces}
use Rattle.abort_expansion.specs.declared.pieces.NextNumbers.{NextNumbers}
use Rattle.abort_expansion.specs.declared.pieces.Regions.{Regions}
use Rattle.abort_expansion.specs.Flags.{one, weak_around, declarations, preparation_name, continuation_name}
use Rattle.abort_expansion.specs.Pieces.{superstates_in, beside}
use Rattle.abort_expansion.specs.Superstates.{preparation, continuation, fork, monitor, watched, forked, prepared}
use Rattle.abort_expansion.specs.Expansion.{piece_of_region}
use Rattle.abort_expansion.proofs.Taken.{AreFlags}
use Rattle.abort_expansion.proofs.Leaving.{preparation_keeps}
use Rattle.abort_expansion.proofs.Apart.{text_has_no_bar}
use Rattle.abort_expansion.proofs.Added.{Located, located_first, flags_there}
use Rattle.abort_expansion.proofs.Shapes.{IsNamed, preparation_named, fork_named, continuation_named}
use Rattle.abort_expansion.proofs.Joined.{HasShape, IsOuter, initial_in}
use Rattle.abort_expansion.proofs.Inner.{inside_of}
use Rattle.abort_expansion.proofs.Splitting.{IsSuperstate, sized, mine, taken_all, forked_shape, forked_keeps, preparation_added, preparation_not_continuation}
use Rattle.abort_expansion.proofs.Splitting.{apart_two}

first_begins : (a c : Bool) (n : ℕ) → a ≡ c → n ≡ 0 → cond a (1 + n) n ≡ one c
first_begins true true n is none = omega (arith, none)
first_begins true false n is none = absurd cc
first_begins false true n is none = absurd cc
first_begins false false n is none = none

prepared_shape : (declared variables : List Variable) (levels m high : ℕ) (name : List ℕ) (regions : List Region) (own : List Transition) (around : List Flags)
    (to : RegionPlaces) (place : ℕ) (begins : Bool) (at : NextNumbers)
    → IsSuperstate declared variables levels m name regions own → high ≡ suc at.superstate + superstates_in (map piece_of_region regions) → high ≤ 2 ^ 64
    → HasShape (name ∷ []) at.superstate high 3 (one begins) (sized regions own around)
    (beside (prepared (length regions) own (mine own around at) to place begins at)
    (forked name own around (mine own around at) (inside_of regions own around at) to (suc place) false at))
prepared_shape declared variables levels m high name regions own around to place begins at h is small =
    let s : ℕ = at.superstate in
    let flags : Flags = mine own around at in
    let inside : Regions = inside_of regions own around at in
    let rest : HasShape (name ∷ []) s high 2 0 (sized regions own around) (forked name own around flags inside to (suc place) false at) =
    forked_shape declared variables levels m high name regions own around to (suc place) false at h is small in
    let first : State = preparation s flags (length regions) own to (suc place) begins in
    let middle : State = fork name false (inside.regions ++ watched (has_aborts own) (monitor s around flags own)) (suc (suc place)) in
    let last : State = continuation s around flags to own in
    let named : IsNamed (preparation_name s) begins first = preparation_named s flags (length regions) own to (suc place) begins in
    let forking : IsNamed name false middle = fork_named name false (inside.regions ++ watched (has_aborts own) (monitor s around flags own))
    (suc (suc place)) in
    let ending : IsNamed (continuation_name s) false last = continuation_named s around flags to own in
    record {
      wide = refl;
      begins = first_begins (out-State first).is_initial begins (initial_in (middle ∷ last ∷ [])) named.begins_is rest.begins;
      called = (inr (preparation_added s high (out-State first).name named.name_is (omega (arith, is))), rest.called);
      apart = (
        (
          apart_two (out-State first).name (out-State middle).name (preparation_name s) name named.name_is forking.name_is
              (λ same. text_has_no_bar name (101 ∷ decimal s) h.text (sym same)),
          (
            apart_two (out-State first).name (out-State last).name (preparation_name s) (continuation_name s) named.name_is ending.name_is
                (preparation_not_continuation s),
            tt,
          ),
        ),
        rest.apart,
      );
      added = rest.added;
    }

-- how many states it becomes, by whether it is prepared
pub split_shape : (prepare : Bool) (declared variables : List Variable) (levels m high : ℕ) (name : List ℕ) (regions : List Region) (own : List Transition)
    (around : List Flags) (to : RegionPlaces) (place : ℕ) (begins : Bool) (at : NextNumbers)
    → IsSuperstate declared variables levels m name regions own → high ≡ suc at.superstate + superstates_in (map piece_of_region regions) → high ≤ 2 ^ 64
    → HasShape (name ∷ []) at.superstate high (if prepare then 3 else 2) (one begins) (sized regions own around)
    (if prepare
    then beside (prepared (length regions) own (mine own around at) to place begins at)
    (forked name own around (mine own around at) (inside_of regions own around at) to (suc place) false at)
    else forked name own around (mine own around at) (inside_of regions own around at) to place begins at)
split_shape true declared variables levels m high name regions own around to place begins at h is small =
    prepared_shape declared variables levels m high name regions own around to place begins at h is small
split_shape false declared variables levels m high name regions own around to place begins at h is small =
    forked_shape declared variables levels m high name regions own around to place begins at h is small

abbrev pub AreLocated : (variables : List Variable) (regions : List Region) (own : List Transition) (around : List Flags) (at : NextNumbers) → Type 0
AreLocated variables regions own around at =
    Located variables at.variable (declarations at.superstate (mine own around at) ++ (inside_of regions own around at).variables)

-- a split superstate needs the same variables, prepared or not
pub split_keeps : (prepare : Bool) (declared variables : List Variable) (levels m n : ℕ) (name : List ℕ) (regions : List Region) (own : List Transition)
    (around : List Flags) (to : RegionPlaces) (place : ℕ) (begins : Bool) (at : NextNumbers)
    → IsSuperstate declared variables levels m name regions own → has_regions regions ≡ true
    → suc at.superstate + superstates_in (map piece_of_region regions) ≤ 2 ^ 64
    → IsOuter variables m n around to → place + (if prepare then 3 else 2) ≤ n → AreLocated variables regions own around at
    → Each (IsState features.Core variables (AreRegions features.Core variables (suc levels)) n)
    (if prepare
    then beside (prepared (length regions) own (mine own around at) to place begins at)
    (forked name own around (mine own around at) (inside_of regions own around at) to (suc place) false at)
    else forked name own around (mine own around at) (inside_of regions own around at) to place begins at).states
split_keeps true declared variables levels m n name regions own around to place begins at h some small outer within located =
    let s : ℕ = at.superstate in
    let flags : Flags = mine own around at in
    let here : AreFlags variables flags =
    flags_there variables (weak_around around) own s at.variable
    (located_first variables at.variable (declarations s flags) (inside_of regions own around at).variables located) in (
      preparation_keeps variables (suc levels) m n s flags (length regions) own to (suc place) begins (added_is_named (101 ∷ decimal s)) here outer.places
          (taken_all declared variables m true own h.taken) (omega (arith, within)),
      forked_keeps declared variables levels m n name regions own around to (suc place) false at h some small outer (omega (arith, within)) located,
    )
split_keeps false declared variables levels m n name regions own around to place begins at h some small outer within located =
    forked_keeps declared variables levels m n name regions own around to place begins at h some small outer within located
