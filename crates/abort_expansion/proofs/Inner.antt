-- What is inside a superstate, by the numbers and flags that it passes on.
use Rattle.std.proofs.Common.{◌≡◌, ℕ, suc, ◌+◌, ◌≤◌, ◌^◌, Bool, true, false, ◌||◌, List, [], ◌∷◌, ◌++◌, map, length, refl, ap, subst, ◌∙◌, arith}
use Rattle.std.proofs.lemmas.List.Folds.{list_any-append}
use Rattle.sc_graph.specs.declared.program.Variable.{Variable}
use Rattle.core_charts.specs.declared.features.Features.TheVariants as features
use Rattle.core_charts.specs.declared.region.Region.{Region}
use Rattle.core_charts.specs.declared.region.Transition.{Transition}
use Rattle.core_charts.specs.Rules.{IsRegion, AreRegions, has_regions}
use Rattle.core_charts.specs.Aborts.{has_strong, has_weak}
use Rattle.sc_text.proofs.EachItem.{Each, each_append, each_at}
use Rattle.abort_expansion.specs.declared.flags.Flags.{Flags}
use Rattle.abort_expansion.specs.declared.pieces.NextNumbers.{NextNumbers}
use Rattle.abort_expansion.specs.declared.pieces.Regions.{Regions}
use Rattle.abort_expansion.specs.Flags.{flags_of, flag_count, given, is_there, one, weak_around, declarations}
use Rattle.abort_expansion.specs.Pieces.{superstates_in, variables_in}
use Rattle.abort_expansion.specs.Superstates.{within}
use Rattle.abort_expansion.specs.Expansion.{piece_of_region, inside_superstate}
use Rattle.abort_expansion.proofs.Taken.{AreFlags}
use Rattle.abort_expansion.proofs.Apart.{Apart, distinct_if_apart}
use Rattle.abort_expansion.proofs.Added.{Located, AreAdded, declarations_added, both_added}
use Rattle.abort_expansion.proofs.Joined.{RegionsKeep, region_names, regions_named, regions_added, regions_keep}

there_or_none : (b : Bool) (x : ℕ) → (is_there (given b x) || false) ≡ b
there_or_none true x = refl
there_or_none false x = refl

-- weak aborts are around what is inside where they are around the superstate, or it has some
pub weak_inside : (around : List Flags) (weak : Bool) (own : List Transition) (x : ℕ)
    → weak_around (around ++ flags_of weak own x ∷ []) ≡ (weak_around around || has_weak own)
weak_inside around weak own x =
    list_any-append (λ f. is_there f.weak) around (flags_of weak own x ∷ [])
    ∙ ap (λ b. weak_around around || b) (there_or_none (has_weak own) (x + one (has_strong own)))

-- the regions of a superstate whose number is s, of which the text has these
abbrev pub inside_of : List Region → List Transition → List Flags → NextNumbers → Regions
inside_of regions own around at =
    inside_superstate (map piece_of_region regions) own around (flags_of (weak_around around) own at.variable) at

pub inside_added : (variables : List Variable) (levels : ℕ) (regions : List Region) (own : List Transition) (around : List Flags) (at : NextNumbers)
    → RegionsKeep variables levels regions → suc at.superstate + superstates_in (map piece_of_region regions) ≤ 2 ^ 64
    → AreAdded (suc at.superstate) (suc at.superstate + superstates_in (map piece_of_region regions))
    (variables_in (weak_around around || has_weak own) (map piece_of_region regions)) (inside_of regions own around at).variables
inside_added variables levels regions own around at h small =
    let flags : Flags = flags_of (weak_around around) own at.variable in
    subst
    (λ weak. AreAdded (suc at.superstate) (suc at.superstate + superstates_in (map piece_of_region regions)) (variables_in weak (map piece_of_region regions))
    (inside_of regions own around at).variables)
    (weak_inside around (weak_around around) own at.variable)
    (regions_added variables levels regions (around ++ flags ∷ []) flags.counter (within (weak_around around) own at) h small)

pub inside_keeps : (variables : List Variable) (levels : ℕ) (regions : List Region) (own : List Transition) (around : List Flags) (at : NextNumbers)
    → RegionsKeep variables levels regions → suc at.superstate + superstates_in (map piece_of_region regions) ≤ 2 ^ 64
    → Each (AreFlags variables) around → AreFlags variables (flags_of (weak_around around) own at.variable)
    → Located variables (at.variable + flag_count (weak_around around) own) (inside_of regions own around at).variables
    → Each (IsRegion features.Core variables (AreRegions features.Core variables levels)) (inside_of regions own around at).regions
inside_keeps variables levels regions own around at h small each flags located =
    let mine : Flags = flags_of (weak_around around) own at.variable in
    regions_keep variables levels regions (around ++ mine ∷ []) mine.counter (within (weak_around around) own at) h small
    (each_append (AreFlags variables) around (mine ∷ []) each (flags, tt)) flags.counter located

pub inside_named : (variables : List Variable) (levels : ℕ) (regions : List Region) (own : List Transition) (around : List Flags) (at : NextNumbers)
    → RegionsKeep variables levels regions → region_names (inside_of regions own around at).regions ≡ region_names regions
inside_named variables levels regions own around at h =
    let mine : Flags = flags_of (weak_around around) own at.variable in
    regions_named variables levels regions (around ++ mine ∷ []) mine.counter (within (weak_around around) own at) h

-- the variables of a superstate that is split, and of what is inside it
pub all_added : (variables : List Variable) (levels : ℕ) (regions : List Region) (own : List Transition) (around : List Flags) (at : NextNumbers)
    → RegionsKeep variables levels regions → suc at.superstate + superstates_in (map piece_of_region regions) ≤ 2 ^ 64
    → AreAdded at.superstate (suc at.superstate + superstates_in (map piece_of_region regions))
    (flag_count (weak_around around) own + variables_in (weak_around around || has_weak own) (map piece_of_region regions))
    (declarations at.superstate (flags_of (weak_around around) own at.variable) ++ (inside_of regions own around at).variables)
all_added variables levels regions own around at h small =
    let s : ℕ = at.superstate in
    let few : ℕ = flag_count (weak_around around) own in
    let more : ℕ = variables_in (weak_around around || has_weak own) (map piece_of_region regions) in
    both_added s (suc s) (suc s + superstates_in (map piece_of_region regions)) few more (few + more)
    (declarations s (flags_of (weak_around around) own at.variable)) (inside_of regions own around at).variables
    (omega arith) (omega arith) small refl
    (declarations_added (weak_around around) own s at.variable) (inside_added variables levels regions own around at h small)

-- ---- regions side by side

pub side_by_side : (variables : List Variable) (levels : ℕ) (regions : List Region) → length regions ≤ 64 → Apart (region_names regions)
    → Each (IsRegion features.Core variables (AreRegions features.Core variables levels)) regions
    → AreRegions features.Core variables (suc levels) regions
side_by_side variables levels regions few apart each = record {
  count = few;
  distinct = distinct_if_apart (region_names regions) apart;
  each = each_at (IsRegion features.Core variables (AreRegions features.Core variables levels)) regions each;
}

pub as_many_names : (regions : List Region) → length (region_names regions) ≡ length regions
as_many_names [] = refl
as_many_names (r ∷ regions) = ap suc (as_many_names regions)

pub has_some : (regions : List Region) (name : List ℕ) (names : List (List ℕ)) → region_names regions ≡ name ∷ names → has_regions regions ≡ true
has_some [] name names h = absurd cc
has_some (r ∷ regions) name names h = refl
