-- A region whose states keep the rules becomes a region that keeps those of core charts.
use Rattle.std.proofs.Common.{◌≡◌, ◌≢◌, ℕ, ◌+◌, ◌<◌, ◌≤◌, ◌^◌, Bool, true, false, cond, Option, Some, None, List, [], ◌∷◌, ◌++◌, map, length, refl, ap, sym}
use Rattle.std.proofs.Common.{subst, ◌∙◌, arith}
use Rattle.std.proofs.lemmas.List.{length-append, map-append, append-nil}
use Rattle.sc_graph.specs.declared.program.Variable.{Variable}
use Rattle.core_charts.specs.declared.features.Features.TheVariants as features
use Rattle.core_charts.specs.declared.region.State.{State}
use Rattle.core_charts.specs.declared.region.Transition.{Transition}
use Rattle.core_charts.specs.declared.region.Region.TheViews.{roll-State, roll-Region, out-State, out-roll-Region}
use Rattle.core_charts.specs.Rules.{IsState, IsRegion, AreRegions}
use Rattle.sc_text.proofs.EachItem.{Each, each_append, each_more}
use Rattle.abort_expansion.specs.declared.flags.Flags.{Flags}
use Rattle.abort_expansion.specs.declared.pieces.NextNumbers.{NextNumbers}
use Rattle.abort_expansion.specs.declared.pieces.StatePieces.{StatePieces}
use Rattle.abort_expansion.specs.Flags.{one, first_name, abandoned_name, aborts_around, weak_around}
use Rattle.abort_expansion.specs.Transitions.{go, on, count_down}
use Rattle.abort_expansion.specs.Pieces.{StatePiece, beside}
use Rattle.abort_expansion.specs.Superstates.{abandoned}
use Rattle.abort_expansion.specs.Expansion.{piece_of_state, region_piece, region_over, region_places, begins_anew, initial_place, initial_number, new_initial}
use Rattle.abort_expansion.specs.Expansion.{left_behind, expanded_states, widths, superstates_among, variables_among}
use Rattle.abort_expansion.proofs.Lists.{count, count_append, count_is}
use Rattle.abort_expansion.proofs.Taken.{IsFlagIfAny, AreFlags}
use Rattle.abort_expansion.proofs.Apart.{Unlike, Apart, IsCalled, IsText, text_is_named, letter_of}
use Rattle.abort_expansion.proofs.Added.{Located, AreAdded}
use Rattle.abort_expansion.proofs.Shapes.{IsNamed, rolled_named}
use Rattle.abort_expansion.proofs.Joined.{HasShape, IsOuter, AllKeep, RegionKeeps, names_of, initial_in, initial_of, states_shape, states_keep}
use Rattle.abort_expansion.proofs.Alone.{region_keeps}
use Rattle.abort_expansion.proofs.Regional.{called_not_plain, left_names, with_left, left_count, left_keeps, first_keeps, left_size, first_size, same_variables}
use Rattle.abort_expansion.proofs.Within.{region_outer, initial_within, initial_still, initial_no_more}

abbrev pieces_of : List State → List StatePiece
pieces_of states = map piece_of_state states

-- the states of the text, expanded, in a region that begins anew or not
abbrev inner_states : Bool → List State → List Flags → Option ℕ → NextNumbers → StatePieces
inner_states anew states around counter at =
    expanded_states anew (pieces_of states) around (region_places (pieces_of states) around counter (one anew)) (one anew) at

abbrev whole_region : Bool → List State → List Flags → Option ℕ → NextNumbers → StatePieces
whole_region anew states around counter at = region_over anew (pieces_of states) around counter (one anew) at

initial_counted : (anew : Bool) (states : List State) → initial_in states ≡ 1 → one anew + initial_of anew (pieces_of states) ≡ 1
initial_counted true states h = omega (arith, initial_no_more states)
initial_counted false states h = omega (arith, initial_still states, h)

anew_within : (variables : List Variable) (levels m : ℕ) (states : List State) (around : List Flags) (counter : Option ℕ) (begin : ℕ)
    → AllKeep variables levels m states
    → begins_anew counter (pieces_of states) ≡ true → initial_place (pieces_of states) around begin < begin + widths (pieces_of states) around
anew_within variables levels m states around (Some x) begin h is = initial_within variables levels m states around begin h is
anew_within variables levels m states around None begin h is = absurd cc

-- what is known of the states of a region of the text
pub record AreStates (variables : List Variable) (levels : ℕ) (states : List State) : Type 0 where
  pub keep : AllKeep variables levels (length states) states
  pub texts : Each IsText (names_of states)
  pub apart : Apart (names_of states)
  pub initial : initial_in states ≡ 1

inner_shape : (variables : List Variable) (levels : ℕ) (states : List State) (anew : Bool) (around : List Flags) (counter : Option ℕ) (at : NextNumbers)
    → AreStates variables levels states → at.superstate + superstates_among (pieces_of states) ≤ 2 ^ 64
    → HasShape (names_of states) at.superstate (at.superstate + superstates_among (pieces_of states)) (widths (pieces_of states) around)
    (initial_of anew (pieces_of states)) (variables_among (weak_around around) (pieces_of states)) (inner_states anew states around counter at)
inner_shape variables levels states anew around counter at h small =
    states_shape variables levels (length states) states anew around (region_places (pieces_of states) around counter (one anew))
    (one anew) at h.keep h.texts h.apart small

region_added : (variables : List Variable) (levels : ℕ) (states : List State) (anew : Bool) (around : List Flags) (counter : Option ℕ) (at : NextNumbers)
    → AreStates variables levels states → at.superstate + superstates_among (pieces_of states) ≤ 2 ^ 64
    → AreAdded at.superstate (at.superstate + superstates_among (pieces_of states)) (variables_among (weak_around around) (pieces_of states))
    (whole_region anew states around counter at).variables
region_added variables levels states anew around counter at h small =
    subst (λ those. AreAdded at.superstate (at.superstate + superstates_among (pieces_of states)) (variables_among (weak_around around) (pieces_of states))
    those)
    (same_variables anew (aborts_around around) counter (initial_place (pieces_of states) around (one anew)) (initial_number (pieces_of states) at.state)
    (inner_states anew states around counter at))
    (inner_shape variables levels states anew around counter at h small).added

-- ---- names and the initial state

first_named : (all : List Transition)
    → IsNamed first_name true (roll-State (record { name = first_name; is_initial = true; is_final = false; regions = []; transitions = all }))
first_named all = rolled_named first_name true false [] all

counted_once : (b : Bool) → b ≡ true → cond b (1 + 0) 0 ≡ 1
counted_once true is = refl
counted_once false is = absurd cc

first_count : (b : Bool) (counter : Option ℕ) (target number : ℕ) → initial_in (new_initial b counter target number).states ≡ one b
first_count true counter target number =
    let all : List Transition = go true None (on counter count_down) target ∷ [] in
    let first : State = roll-State (record { name = first_name; is_initial = true; is_final = false; regions = []; transitions = all }) in
    counted_once (out-State first).is_initial (first_named all).begins_is
first_count false counter target number = refl

first_not_abandoned : first_name ≢ abandoned_name
first_not_abandoned same = let letters : 105 ≡ 108 = ap letter_of same in absurd (omega (arith, letters))

unlike_rest : (left : Bool) (texts : List (List ℕ)) (low high : ℕ) (made : StatePieces) → Each IsText texts
    → Each (IsCalled texts 105 low high) (names_of made.states)
    → Unlike (names_of (beside made (left_behind left)).states) first_name
unlike_rest true texts low high made h called =
    let all : names_of made.states ++ abandoned_name ∷ [] ≡ names_of (made.states ++ abandoned ∷ []) =
    ap (λ names. names_of made.states ++ names) (sym left_names) ∙ sym (map-append (λ s. (out-State s).name) made.states (abandoned ∷ [])) in
    subst (λ names. Unlike names first_name) all
    (each_append (λ other. first_name ≢ other) (names_of made.states) (abandoned_name ∷ [])
    (each_more (IsCalled texts 105 low high) (λ other. first_name ≢ other) (names_of made.states)
    (λ name g same. called_not_plain texts low high 105 name (omega arith) h g (sym same)) called) (first_not_abandoned, tt))
unlike_rest false texts low high made h called =
    subst (λ states. Unlike (names_of states) first_name) (sym (append-nil made.states))
    (each_more (IsCalled texts 105 low high) (λ other. first_name ≢ other) (names_of made.states)
    (λ name g same. called_not_plain texts low high 105 name (omega arith) h g (sym same)) called)

with_first : (b : Bool) (counter : Option ℕ) (target number : ℕ) (rest : StatePieces) → Unlike (names_of rest.states) first_name
    → Apart (names_of rest.states) → Apart (names_of (beside (new_initial b counter target number) rest).states)
with_first true counter target number rest unlike apart =
    (subst (Unlike (names_of rest.states)) (sym (first_named (go true None (on counter count_down) target ∷ [])).name_is) unlike, apart)
with_first false counter target number rest unlike apart = apart

-- ---- the region

region_is_kept : (variables : List Variable) (levels : ℕ) (name : List ℕ) (states : List State) (anew : Bool) (around : List Flags) (counter : Option ℕ)
    (at : NextNumbers)
    → begins_anew counter (pieces_of states) ≡ anew → IsText name → AreStates variables levels states
    → at.superstate + superstates_among (pieces_of states) ≤ 2 ^ 64 → Each (AreFlags variables) around → IsFlagIfAny variables counter
    → Located variables at.variable (whole_region anew states around counter at).variables
    → IsRegion features.Core variables (AreRegions features.Core variables levels)
    (roll-Region (record { name = name; states = (whole_region anew states around counter at).states }))
region_is_kept variables levels name states anew around counter at is_anew text h small flags counted located =
    let left : Bool = aborts_around around in
    let target : ℕ = initial_place (pieces_of states) around (one anew) in
    let number : ℕ = initial_number (pieces_of states) at.state in
    let made : StatePieces = inner_states anew states around counter at in
    let first : StatePieces = new_initial anew counter target number in
    let rest : StatePieces = beside made (left_behind left) in
    let all : List State = (whole_region anew states around counter at).states in
    let shape : HasShape (names_of states) at.superstate (at.superstate + superstates_among (pieces_of states)) (widths (pieces_of states) around)
    (initial_of anew (pieces_of states)) (variables_among (weak_around around) (pieces_of states)) made =
    inner_shape variables levels states anew around counter at h small in
    let size : length all ≡ one anew + widths (pieces_of states) around + one left =
    omega (
      arith,
      length-append first.states rest.states,
      length-append made.states (left_behind left).states,
      first_size anew counter target number,
      left_size left,
      shape.wide,
    ) in
    let outer : IsOuter variables (length states) (length all) around (region_places (pieces_of states) around counter (one anew)) =
    region_outer variables levels (length states) (length all) states around counter (one anew) h.keep refl flags counted size in
    let begun : count (λ s. (out-State s).is_initial) all ≡ 1 =
    omega (
      arith,
      count_append (λ s. (out-State s).is_initial) first.states rest.states,
      count_append (λ s. (out-State s).is_initial) made.states (left_behind left).states,
      first_count anew counter target number,
      left_count left,
      shape.begins,
      initial_counted anew states h.initial,
    ) in
    region_keeps variables levels (record { name = name; states = all }) (text_is_named name text)
    (sym (count_is (λ s. (out-State s).is_initial) all) ∙ begun)
    (with_first anew counter target number rest
    (unlike_rest left (names_of states) at.superstate (at.superstate + superstates_among (pieces_of states)) made h.texts shape.called)
    (with_left left (names_of states) at.superstate (at.superstate + superstates_among (pieces_of states)) made h.texts shape.called shape.apart))
    (each_append (IsState features.Core variables (AreRegions features.Core variables levels) (length all)) first.states rest.states
    (first_keeps variables levels (length all) anew counter target number counted
    (λ is. omega (arith, anew_within variables levels (length states) states around counter (one anew) h.keep (is_anew ∙ is), size)))
    (each_append (IsState features.Core variables (AreRegions features.Core variables levels) (length all)) made.states (left_behind left).states
    (states_keep variables levels (length states) (length all) states anew around (region_places (pieces_of states) around counter (one anew))
    (one anew) at h.keep small outer (omega (arith, size))
    (subst (Located variables at.variable) (sym (same_variables anew left counter target number made)) located))
    (left_keeps variables levels (length all) left)))

pub region_piece_keeps : (variables : List Variable) (levels : ℕ) (name : List ℕ) (states : List State) → IsText name → AreStates variables levels states
    → RegionKeeps variables levels name (region_piece (record { name = name; states = pieces_of states }))
region_piece_keeps variables levels name states text h = record {
  named = λ around counter at.
      ap (λ z. z.name ∷ [])
      (out-roll-Region (record { name = name; states = (whole_region (begins_anew counter (pieces_of states)) states around counter at).states }));
  added = λ around counter at small. region_added variables levels states (begins_anew counter (pieces_of states)) around counter at h small;
  keeps = λ around counter at small flags counted located.
      (region_is_kept variables levels name states (begins_anew counter (pieces_of states)) around counter at refl text h small flags counted located, tt);
}
