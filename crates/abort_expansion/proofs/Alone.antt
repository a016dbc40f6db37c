-- A simple state becomes one state, which keeps the rules of core charts; so does a monitor.
use Rattle.std.specs.Prelude.{decimal}
use Rattle.std.proofs.Common.{◌≡◌, ◌≢◌, ℕ, ◌+◌, inl, Bool, true, false, cond, IsTrue, Option, Some, List, [], ◌∷◌, map, length, slice_get, count_by, refl, ap}
use Rattle.std.proofs.Common.{sym, subst, ◌∙◌, arith}
use Rattle.sc_graph.specs.declared.program.Variable.{Variable}
use Rattle.sc_text.specs.declared.language.Language.TheVariants as languages
use Rattle.sc_text.specs.Parts.{IsNameIn, are_distinct}
use Rattle.core_charts.specs.declared.features.Features.TheVariants as features
use Rattle.core_charts.specs.declared.region.Region.{Region}
use Rattle.core_charts.specs.declared.region.State.{State}
use Rattle.core_charts.specs.declared.region.Transition.{Transition}
use Rattle.core_charts.specs.declared.region.Region.TheOpen.{Region-F}
use Rattle.core_charts.specs.declared.region.Region.TheViews.{roll-Region, out-Region, out-roll-Region, roll-State, out-State}
use Rattle.core_charts.specs.Rules.{IsState, IsRegion, AreRegions}
use Rattle.sc_text.proofs.AddedNames.{added_is_named}
use Rattle.sc_text.proofs.EachItem.{Each, each_at}
use Rattle.abort_expansion.specs.declared.flags.Flags.{Flags}
use Rattle.abort_expansion.specs.declared.places.RegionPlaces.{RegionPlaces}
use Rattle.abort_expansion.specs.Flags.{one, watching_name, abandoned_name, monitor_name}
use Rattle.abort_expansion.specs.Superstates.{simple, simple_transitions, monitor, monitor_transitions, abandoned}
use Rattle.abort_expansion.specs.Expansion.{state_piece}
use Rattle.abort_expansion.proofs.Lists.{count_is}
use Rattle.abort_expansion.proofs.Taken.{AreFlags, IsTaken}
use Rattle.abort_expansion.proofs.Leaving.{InText, left_by, ended_in, simple_transitions_go, monitor_goes}
use Rattle.abort_expansion.proofs.Apart.{Apart, IsText, text_is_named, distinct_if_apart, letter_of}
use Rattle.abort_expansion.proofs.Added.{none_added}
use Rattle.abort_expansion.proofs.Shapes.{IsNamed, rolled_named}
use Rattle.abort_expansion.proofs.Joined.{HasShape, StateKeeps, IsOuter, names_of}

counted_alone : (b c : Bool) → b ≡ c → cond b (1 + 0) 0 ≡ one c
counted_alone true true is = refl
counted_alone true false is = absurd cc
counted_alone false true is = absurd cc
counted_alone false false is = refl

-- a state of the text alone
pub one_shape : (name : List ℕ) (low high : ℕ) (begins : Bool) (s : State) (stands_for : List (Option ℕ)) → IsNamed name begins s
    → HasShape (name ∷ []) low high 1 (one begins) 0 (record { states = s ∷ []; variables = []; stands_for = stands_for })
one_shape name low high begins s stands_for h = record {
  wide = refl;
  begins = counted_alone (out-State s).is_initial begins h.begins_is;
  called = (inl (inl h.name_is), tt);
  apart = (tt, tt);
  added = none_added low high;
}

-- ---- simple states

simple_named : (is_final : Bool) (name : List ℕ) (own : List Transition) (around : List Flags) (to : RegionPlaces) (begins : Bool)
    → IsNamed name begins (simple is_final name own around to begins)
simple_named true name own around to begins = rolled_named name begins true [] []
simple_named false name own around to begins = rolled_named name begins false [] (simple_transitions around to own)

simple_state_keeps : (declared variables : List Variable) (levels m n : ℕ) (is_final : Bool) (name : List ℕ) (own : List Transition) (around : List Flags)
    (to : RegionPlaces) (begins : Bool)
    → IsText name → Each (InText declared variables m false) own → IsOuter variables m n around to
    → IsState features.Core variables (AreRegions features.Core variables levels) n (simple is_final name own around to begins)
simple_state_keeps declared variables levels m n true name own around to begins text h outer =
    ended_in variables levels n name begins (text_is_named name text)
simple_state_keeps declared variables levels m n false name own around to begins text h outer =
    left_by variables levels n name begins (simple_transitions around to own) (text_is_named name text)
    (simple_transitions_go declared variables m n around to own outer.flags outer.left outer.places h)

pub simple_piece_keeps : (declared variables : List Variable) (levels m : ℕ) (is_initial is_final : Bool) (name : List ℕ) (own : List Transition)
    → IsText name → Each (InText declared variables m false) own
    → StateKeeps variables levels m name (state_piece (record { name = name; is_initial = is_initial; is_final = is_final; regions = []; transitions = own }))
simple_piece_keeps declared variables levels m is_initial is_final name own text h = record {
  least = λ around. omega arith;
  shape = λ around to place begins at small.
      one_shape name at.superstate (at.superstate + (0 + 0)) begins (simple is_final name own around to begins) (Some at.state ∷ [])
      (simple_named is_final name own around to begins);
  keeps = λ n around to place begins at small outer within located.
      (simple_state_keeps declared variables levels m n is_final name own around to begins text h outer, tt);
}

-- ---- regions

-- a region of these parts
pub region_keeps : (variables : List Variable) (levels : ℕ) (y : Region-F Region State)
    → IsNameIn languages.Scl y.name → count_by (λ s. (out-State s).is_initial) y.states ≡ 1 → Apart (names_of y.states)
    → Each (IsState features.Core variables (AreRegions features.Core variables levels) (length y.states)) y.states
    → IsRegion features.Core variables (AreRegions features.Core variables levels) (roll-Region y)
region_keeps variables levels y named one apart each =
    let is : y ≡ out-Region (roll-Region y) = sym (out-roll-Region y) in
    record {
      named = subst (λ z. IsNameIn languages.Scl z.name) is named;
      state_count = tt;
      one_initial = subst (λ z. count_by (λ s. (out-State s).is_initial) z.states ≡ 1) is one;
      distinct = subst (λ z. IsTrue (are_distinct (map (λ s. (out-State s).name) z.states))) is (distinct_if_apart (names_of y.states) apart);
      states =
          subst (λ z. (i : ℕ) (s : State) → slice_get z.states i ≡ Some s → IsState features.Core variables (AreRegions features.Core variables levels)
          (length z.states) s) is
          (each_at (IsState features.Core variables (AreRegions features.Core variables levels) (length y.states)) y.states each);
    }

two_counted : (a b : Bool) → a ≡ true → b ≡ false → cond a (1 + cond b (1 + 0) 0) (cond b (1 + 0) 0) ≡ 1
two_counted true false is none = refl
two_counted true true is none = absurd cc
two_counted false b is none = absurd cc

watching_not_abandoned : watching_name ≢ abandoned_name
watching_not_abandoned same = let letters : 118 ≡ 108 = ap letter_of same in absurd (omega (arith, letters))

both_apart : (x y a b : List ℕ) → x ≡ a → y ≡ b → a ≢ b → Apart (x ∷ y ∷ [])
both_apart x y a b is_x is_y differ = ((λ same. differ (sym is_x ∙ same ∙ is_y), tt), (tt, tt))

pub monitor_keeps : (variables : List Variable) (levels m s : ℕ) (around : List Flags) (flags : Flags) (own : List Transition)
    → Each (AreFlags variables) around → AreFlags variables flags → Each (IsTaken variables m) own
    → IsRegion features.Core variables (AreRegions features.Core variables levels) (monitor s around flags own)
monitor_keeps variables levels m s around flags own each h taken =
    let all : List Transition = monitor_transitions around flags own in
    let first : State = roll-State (record { name = watching_name; is_initial = true; is_final = false; regions = []; transitions = all }) in
    let first_named : IsNamed watching_name true first = rolled_named watching_name true false [] all in
    let last_named : IsNamed abandoned_name false abandoned = rolled_named abandoned_name false true [] [] in
    region_keeps variables levels (record { name = monitor_name s; states = first ∷ abandoned ∷ [] })
    (added_is_named (103 ∷ decimal s))
    (sym (count_is (λ z. (out-State z).is_initial) (first ∷ abandoned ∷ []))
    ∙ two_counted (out-State first).is_initial (out-State abandoned).is_initial first_named.begins_is last_named.begins_is)
    (both_apart (out-State first).name (out-State abandoned).name watching_name abandoned_name first_named.name_is last_named.name_is watching_not_abandoned) (
      left_by variables levels 2 watching_name true all (added_is_named (118 ∷ [])) (monitor_goes variables m around flags own each h taken),
      (ended_in variables levels 2 abandoned_name false (added_is_named (108 ∷ [])), tt),
    )
