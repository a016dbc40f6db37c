-- A region whose states keep the rules becomes a region that keeps those of core charts.
use Rattle.std.proofs.Common.{◌≡◌, ◌≢◌, ℕ, ◌+◌, ◌<◌, ◌≤◌, inl, inr, Bool, true, false, cond, Option, None, List, [], ◌∷◌, ◌++◌, length, refl, ap, sym, subst}
use Rattle.std.proofs.Common.{◌∙◌, arith}
use Rattle.std.proofs.lemmas.List.{map-append, append-nil}
use Rattle.sc_graph.specs.declared.program.Variable.{Variable}
use Rattle.core_charts.specs.declared.features.Features.TheVariants as features
use Rattle.core_charts.specs.declared.region.Region.TheViews.{out-State}
use Rattle.core_charts.specs.Rules.{IsState, AreRegions}
use Rattle.sc_text.proofs.AddedNames.{added_is_named}
use Rattle.sc_text.proofs.EachItem.{Each, each_more}
use Rattle.abort_expansion.specs.declared.pieces.StatePieces.{StatePieces}
use Rattle.abort_expansion.specs.Flags.{one, first_name, abandoned_name}
use Rattle.abort_expansion.specs.Transitions.{go, on, count_down}
use Rattle.abort_expansion.specs.Pieces.{beside}
use Rattle.abort_expansion.specs.Superstates.{abandoned}
use Rattle.abort_expansion.specs.Expansion.{new_initial, left_behind}
use Rattle.abort_expansion.proofs.Taken.{IsFlagIfAny, counting_down_effects, go_goes, no_trigger}
use Rattle.abort_expansion.proofs.Leaving.{left_by, ended_in}
use Rattle.abort_expansion.proofs.Apart.{Unlike, Apart, apart_append, IsCalled, IsText, text_has_no_bar, letter_of, at_in}
use Rattle.abort_expansion.proofs.Shapes.{IsNamed, rolled_named}
use Rattle.abort_expansion.proofs.Joined.{names_of, initial_in}

-- names of states are none of those by a letter behind those that expansion numbers
pub called_not_plain : (texts : List (List ℕ)) (low high letter : ℕ) (name : List ℕ) → 105 ≤ letter → Each IsText texts → IsCalled texts 105 low high name
    → name ≢ 95 ∷ letter ∷ []
called_not_plain texts low high letter name large h (inl text) = text_has_no_bar name (letter ∷ []) (at_in IsText texts name h text)
called_not_plain texts low high letter name large h (inr added) =
    λ same. let letters : added.letter ≡ letter = ap letter_of (sym added.is ∙ same) in absurd (omega (arith, letters, added.below, large))

-- ---- the abandoned state behind states of a region

abandoned_named : IsNamed abandoned_name false abandoned
abandoned_named = rolled_named abandoned_name false true [] []

pub left_names : names_of (abandoned ∷ []) ≡ abandoned_name ∷ []
left_names = ap (λ name. name ∷ []) abandoned_named.name_is

pub with_left : (b : Bool) (texts : List (List ℕ)) (low high : ℕ) (made : StatePieces) → Each IsText texts
    → Each (IsCalled texts 105 low high) (names_of made.states)
    → Apart (names_of made.states) → Apart (names_of (beside made (left_behind b)).states)
with_left true texts low high made h called apart =
    let all : names_of made.states ++ abandoned_name ∷ [] ≡ names_of (made.states ++ abandoned ∷ []) =
    ap (λ names. names_of made.states ++ names) (sym left_names) ∙ sym (map-append (λ s. (out-State s).name) made.states (abandoned ∷ [])) in
    subst Apart all
    (apart_append (names_of made.states) (abandoned_name ∷ []) apart (tt, tt)
    (each_more (IsCalled texts 105 low high) (Unlike (abandoned_name ∷ [])) (names_of made.states)
    (λ name g. (called_not_plain texts low high 108 name (omega arith) h g, tt)) called))
with_left false texts low high made h called apart = subst (λ states. Apart (names_of states)) (sym (append-nil made.states)) apart

not_begun : (b : Bool) → b ≡ false → cond b (1 + 0) 0 ≡ 0
not_begun true none = absurd cc
not_begun false none = refl

pub left_count : (b : Bool) → initial_in (left_behind b).states ≡ 0
left_count true = not_begun (out-State abandoned).is_initial abandoned_named.begins_is
left_count false = refl

pub left_keeps : (variables : List Variable) (levels n : ℕ) (b : Bool) → Each (IsState features.Core variables (AreRegions features.Core variables levels) n)
    (left_behind b).states
left_keeps variables levels n true = (ended_in variables levels n abandoned_name false (added_is_named (108 ∷ [])), tt)
left_keeps variables levels n false = tt

-- ---- the new initial state

pub first_keeps : (variables : List Variable) (levels n : ℕ) (b : Bool) (counter : Option ℕ) (target number : ℕ) → IsFlagIfAny variables counter
    → (b ≡ true → target < n)
    → Each (IsState features.Core variables (AreRegions features.Core variables levels) n) (new_initial b counter target number).states
first_keeps variables levels n true counter target number h within = (
  left_by variables levels n first_name true (go true None (on counter count_down) target ∷ []) (added_is_named (105 ∷ []))
      (go_goes variables n true None (on counter count_down) target (no_trigger variables) (counting_down_effects variables counter h) (within refl), tt),
  tt,
)
first_keeps variables levels n false counter target number h within = tt

pub left_size : (b : Bool) → length (left_behind b).states ≡ one b
left_size true = refl
left_size false = refl

pub first_size : (b : Bool) (counter : Option ℕ) (target number : ℕ) → length (new_initial b counter target number).states ≡ one b
first_size true counter target number = refl
first_size false counter target number = refl

-- they need no variables
pub same_variables : (a b : Bool) (counter : Option ℕ) (target number : ℕ) (made : StatePieces)
    → made.variables ≡ (beside (new_initial a counter target number) (beside made (left_behind b))).variables
same_variables true true counter target number made = sym (append-nil made.variables)
same_variables true false counter target number made = sym (append-nil made.variables)
same_variables false true counter target number made = sym (append-nil made.variables)
same_variables false false counter target number made = sym (append-nil made.variables)
