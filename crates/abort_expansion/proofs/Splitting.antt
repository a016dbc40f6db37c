-- A superstate becomes states that keep the rules of core charts.
use Rattle.std.specs.Prelude.{decimal}
use Rattle.std.proofs.Common.{◌≡◌, ◌≢◌, ℕ, suc, ◌+◌, ◌<◌, ◌≤◌, ◌^◌, inl, inr, Bool, true, false, cond, ◌||◌, None, List, [], ◌∷◌, ◌++◌, map, length, count_by}
use Rattle.std.proofs.Common.{refl, ap, sym, subst, ◌∙◌, arith}
use Rattle.std.proofs.lemmas.List.{length-append, map-append, append-nil}
use Rattle.sc_graph.specs.declared.program.Variable.{Variable}
use Rattle.core_charts.specs.declared.features.Features.TheVariants as features
use Rattle.core_charts.specs.declared.region.Region.{Region}
use Rattle.core_charts.specs.declared.region.State.{State}
use Rattle.core_charts.specs.declared.region.Transition.{Transition}
use Rattle.core_charts.specs.declared.region.TransitionKind.TheVariants as kind
use Rattle.core_charts.specs.declared.region.Region.TheViews.{out-Region, out-State, out-roll-Region}
use Rattle.core_charts.specs.Rules.{IsState, IsRegion, IsTransition, AreRegions, has_regions}
use Rattle.core_charts.specs.Tests.{is_join}
use Rattle.core_charts.specs.Aborts.{has_aborts, has_weak}
use Rattle.sc_text.proofs.AddedNames.{added_is_named}
use Rattle.sc_text.proofs.EachItem.{Each, each_append, each_more}
use Rattle.abort_expansion.specs.declared.flags.Flags.{Flags}
use Rattle.abort_expansion.specs.declared.places.RegionPlaces.{RegionPlaces}
use Rattle.abort_expansion.specs.declared.pieces.NextNumbers.{NextNumbers}
use Rattle.abort_expansion.specs.declared.pieces.Regions.{Regions}
use Rattle.abort_expansion.specs.Flags.{flags_of, flag_count, one, weak_around, declarations, preparation_name, continuation_name, monitor_name}
use Rattle.abort_expansion.specs.Pieces.{superstates_in, variables_in}
use Rattle.abort_expansion.specs.Superstates.{continuation, fork, monitor, watched, forked}
use Rattle.abort_expansion.specs.Expansion.{piece_of_region}
use Rattle.abort_expansion.proofs.Taken.{IsTaken, AreFlags}
use Rattle.abort_expansion.proofs.Leaving.{InText, state_keeps, continuation_keeps}
use Rattle.abort_expansion.proofs.Apart.{Unlike, Apart, apart_append, IsAdded, IsText, text_has_no_bar, text_is_named, letter_of}
use Rattle.abort_expansion.proofs.Added.{Located, located_first, located_later, AreAdded, declarations_added, flags_there}
use Rattle.abort_expansion.proofs.Shapes.{IsNamed, continuation_named, fork_named}
use Rattle.abort_expansion.proofs.Joined.{HasShape, IsOuter, RegionsKeep, region_names}
use Rattle.abort_expansion.proofs.Alone.{monitor_keeps}
use Rattle.abort_expansion.proofs.Inner.{inside_of, inside_keeps, inside_named, all_added, side_by_side, as_many_names, has_some}

-- what is known of a superstate of the text
pub record IsSuperstate (declared variables : List Variable) (levels m : ℕ) (name : List ℕ) (regions : List Region) (own : List Transition) : Type 0 where
  pub text : IsText name
  pub inner : RegionsKeep variables levels regions
  pub few : length regions ≤ 63
  pub texts : Each IsText (region_names regions)
  pub apart : Apart (region_names regions)
  pub taken : Each (InText declared variables m true) own
  pub joins : count_by (λ t. is_join t.kind) own ≤ 1

pub taken_all : (declared variables : List Variable) (m : ℕ) (super : Bool) (own : List Transition) → Each (InText declared variables m super) own
    → Each (IsTaken variables m) own
taken_all declared variables m super own h = each_more (InText declared variables m super) (IsTaken variables m) own (λ t g. g.taken) h

-- ---- the regions of a fork

unlike_monitor : (s : ℕ) (names : List (List ℕ)) → Each IsText names → Each (Unlike (monitor_name s ∷ [])) names
unlike_monitor s names h = each_more IsText (Unlike (monitor_name s ∷ [])) names (λ name text. (text_has_no_bar name (103 ∷ decimal s) text, tt)) h

monitor_called : (s : ℕ) (around : List Flags) (flags : Flags) (own : List Transition) → region_names (monitor s around flags own ∷ []) ≡ monitor_name s ∷ []
monitor_called s around flags own = ap (λ z. z.name ∷ []) (out-roll-Region _)

watched_apart : (b : Bool) (s : ℕ) (around : List Flags) (flags : Flags) (own : List Transition) (regions : List Region)
    → Each IsText (region_names regions) → Apart (region_names regions) → Apart (region_names (regions ++ watched b (monitor s around flags own)))
watched_apart true s around flags own regions texts apart =
    let all : region_names regions ++ monitor_name s ∷ [] ≡ region_names (regions ++ monitor s around flags own ∷ []) =
    ap (λ names. region_names regions ++ names) (sym (monitor_called s around flags own))
    ∙ sym (map-append (λ r. (out-Region r).name) regions (monitor s around flags own ∷ [])) in
    subst Apart all (apart_append (region_names regions) (monitor_name s ∷ []) apart (tt, tt) (unlike_monitor s (region_names regions) texts))
watched_apart false s around flags own regions texts apart = subst (λ rs. Apart (region_names rs)) (sym (append-nil regions)) apart

watched_keep : (variables : List Variable) (levels : ℕ) (b : Bool) (regions : List Region) (monitor : Region)
    → Each (IsRegion features.Core variables (AreRegions features.Core variables levels)) regions
    → IsRegion features.Core variables (AreRegions features.Core variables levels) monitor
    → Each (IsRegion features.Core variables (AreRegions features.Core variables levels)) (regions ++ watched b monitor)
watched_keep variables levels true regions monitor h k =
    each_append (IsRegion features.Core variables (AreRegions features.Core variables levels)) regions (monitor ∷ []) h (k, tt)
watched_keep variables levels false regions monitor h k =
    each_append (IsRegion features.Core variables (AreRegions features.Core variables levels)) regions [] h tt

one_more : (b : Bool) (regions : List Region) (monitor : Region) → length regions ≤ 63 → length (regions ++ watched b monitor) ≤ 64
one_more true regions monitor few = omega (arith, few, length-append regions (monitor ∷ []))
one_more false regions monitor few = omega (arith, few, length-append regions [])

has_more : (regions more : List Region) → has_regions regions ≡ true → has_regions (regions ++ more) ≡ true
has_more [] more h = absurd cc
has_more (r ∷ regions) more h = refl

pub still_some : (regions others : List Region) → region_names others ≡ region_names regions → has_regions regions ≡ true → has_regions others ≡ true
still_some [] others names some = absurd cc
still_some (r ∷ regions) others names some = has_some others (out-Region r).name (region_names regions) names

-- ---- the fork and the continuation state

join_alone : (variables : List Variable) (n to : ℕ) (super : Bool) → super ≡ true → to < n
    → IsTransition features.Core variables n super (record { kind = kind.Join; immediate = false; trigger = None; effects = []; target = to })
join_alone variables n to super is within = record {
  allowed = refl;
  fits = is;
  plain_join = λ same. (refl, refl);
  trigger = λ e at. absurd cc;
  effect_count = tt;
  effects = λ i e at. absurd cc;
  target = within;
}

pub fork_keeps : (variables : List Variable) (levels n : ℕ) (name : List ℕ) (begins : Bool) (regions : List Region) (to : ℕ)
    → IsText name → AreRegions features.Core variables (suc levels) regions → has_regions regions ≡ true → to < n
    → IsState features.Core variables (AreRegions features.Core variables (suc levels)) n (fork name begins regions to)
fork_keeps variables levels n name begins regions to text sides some within =
    let join : Transition = record { kind = kind.Join; immediate = false; trigger = None; effects = []; target = to } in
    state_keeps variables (suc levels) n (record { name = name; is_initial = begins; is_final = false; regions = regions; transitions = join ∷ [] })
    (text_is_named name text) (λ is. absurd cc) sides (omega arith) (join_alone variables n to (has_regions regions) some within, tt)

continuation_added : (s high : ℕ) (name : List ℕ) → name ≡ continuation_name s → s < high → IsAdded 105 s high name
continuation_added s high name is below = record { letter = 98; number = s; is = is; below = omega arith; least = omega arith; most = below }

pub preparation_added : (s high : ℕ) (name : List ℕ) → name ≡ preparation_name s → s < high → IsAdded 105 s high name
preparation_added s high name is below = record { letter = 101; number = s; is = is; below = omega arith; least = omega arith; most = below }

two_begin : (a b c : Bool) → a ≡ c → b ≡ false → cond a (1 + cond b (1 + 0) 0) (cond b (1 + 0) 0) ≡ one c
two_begin a true c is none = absurd cc
two_begin true false true is none = refl
two_begin true false false is none = absurd cc
two_begin false false true is none = absurd cc
two_begin false false false is none = refl

pub apart_two : (x y a b : List ℕ) → x ≡ a → y ≡ b → a ≢ b → x ≢ y
apart_two x y a b is_x is_y differ = λ same. differ (sym is_x ∙ same ∙ is_y)

pub preparation_not_continuation : (s : ℕ) → preparation_name s ≢ continuation_name s
preparation_not_continuation s same = let letters : 101 ≡ 98 = ap letter_of same in absurd (omega (arith, letters))

-- ---- a superstate that is split

-- so many variables are in it
abbrev pub sized : List Region → List Transition → List Flags → ℕ
sized regions own around =
    flag_count (weak_around around) own + variables_in (weak_around around || has_weak own) (map piece_of_region regions)

abbrev pub mine : List Transition → List Flags → NextNumbers → Flags
mine own around at = flags_of (weak_around around) own at.variable

pub forked_shape : (declared variables : List Variable) (levels m high : ℕ) (name : List ℕ) (regions : List Region) (own : List Transition)
    (around : List Flags) (to : RegionPlaces) (place : ℕ) (begins : Bool) (at : NextNumbers)
    → IsSuperstate declared variables levels m name regions own → high ≡ suc at.superstate + superstates_in (map piece_of_region regions) → high ≤ 2 ^ 64
    → HasShape (name ∷ []) at.superstate high 2 (one begins) (sized regions own around)
    (forked name own around (mine own around at) (inside_of regions own around at) to place begins at)
forked_shape declared variables levels m high name regions own around to place begins at h is small =
    let s : ℕ = at.superstate in
    let flags : Flags = mine own around at in
    let inside : Regions = inside_of regions own around at in
    let first : State = fork name begins (inside.regions ++ watched (has_aborts own) (monitor s around flags own)) (suc place) in
    let last : State = continuation s around flags to own in
    let named : IsNamed name begins first = fork_named name begins (inside.regions ++ watched (has_aborts own) (monitor s around flags own)) (suc place) in
    let ending : IsNamed (continuation_name s) false last = continuation_named s around flags to own in
    record {
      wide = refl;
      begins = two_begin (out-State first).is_initial (out-State last).is_initial begins named.begins_is ending.begins_is;
      called = (inl (inl named.name_is), (inr (continuation_added s high (out-State last).name ending.name_is (omega (arith, is))), tt));
      apart = (
        (
          apart_two (out-State first).name (out-State last).name name (continuation_name s) named.name_is ending.name_is
              (text_has_no_bar name (98 ∷ decimal s) h.text),
          tt,
        ),
        (tt, tt),
      );
      added = subst (λ n. AreAdded s n (sized regions own around) (declarations s flags ++ inside.variables)) (sym is)
          (all_added variables levels regions own around at h.inner (omega (arith, is, small)));
    }

pub forked_keeps : (declared variables : List Variable) (levels m n : ℕ) (name : List ℕ) (regions : List Region) (own : List Transition) (around : List Flags)
    (to : RegionPlaces) (place : ℕ) (begins : Bool) (at : NextNumbers)
    → IsSuperstate declared variables levels m name regions own → has_regions regions ≡ true
    → suc at.superstate + superstates_in (map piece_of_region regions) ≤ 2 ^ 64
    → IsOuter variables m n around to → place + 2 ≤ n
    → Located variables at.variable (declarations at.superstate (mine own around at) ++ (inside_of regions own around at).variables)
    → Each (IsState features.Core variables (AreRegions features.Core variables (suc levels)) n)
    (forked name own around (mine own around at) (inside_of regions own around at) to place begins at).states
forked_keeps declared variables levels m n name regions own around to place begins at h some small outer within located =
    let s : ℕ = at.superstate in
    let flags : Flags = mine own around at in
    let inside : Regions = inside_of regions own around at in
    let here : AreFlags variables flags = flags_there variables (weak_around around) own s at.variable
    (located_first variables at.variable (declarations s flags) inside.variables located) in
    let there : Located variables (at.variable + flag_count (weak_around around) own) inside.variables =
    located_later variables at.variable (flag_count (weak_around around) own) (at.variable + flag_count (weak_around around) own)
    (declarations s flags) inside.variables
    (declarations_added (weak_around around) own s at.variable).many refl located in
    let taken : Each (IsTaken variables m) own = taken_all declared variables m true own h.taken in
    let names : region_names inside.regions ≡ region_names regions = inside_named variables levels regions own around at h.inner in
    let few : length inside.regions ≤ 63 =
    omega (arith, sym (as_many_names inside.regions) ∙ ap (λ ns. length ns) names ∙ as_many_names regions, h.few) in
    let watching : Region = monitor s around flags own in
    let all : List Region = inside.regions ++ watched (has_aborts own) watching in
    let sides : AreRegions features.Core variables (suc levels) all =
    side_by_side variables levels all (one_more (has_aborts own) inside.regions watching few)
    (watched_apart (has_aborts own) s around flags own inside.regions (subst (Each IsText) (sym names) h.texts) (subst Apart (sym names) h.apart))
    (watched_keep variables levels (has_aborts own) inside.regions watching
    (inside_keeps variables levels regions own around at h.inner small outer.flags here there)
    (monitor_keeps variables levels m s around flags own outer.flags here taken)) in (
      fork_keeps variables levels n name begins all (suc place) h.text sides
          (has_more inside.regions (watched (has_aborts own) watching) (still_some regions inside.regions names some)) (omega (arith, within)),
      (
        continuation_keeps variables (suc levels) m n s around flags to own (added_is_named (98 ∷ decimal s)) outer.flags outer.left here outer.places taken,
        tt,
      ),
    )
