-- Where the initial state of a region stands, and what its thread begins with.
use Rattle.std.proofs.Common.{◌≡◌, ℕ, ◌+◌, ⊎_elim, Bool, true, false, ◌||◌, ◌&&◌, Option, Some, None, List, [], ◌∷◌, map, slice_get, unwrap_or, refl, sym, ap}
use Rattle.std.proofs.Common.{subst, ◌∙◌, if◌then◌else◌}
use Rattle.std.specs.List.{list_any}
use Rattle.sc_text.proofs.EachItem.{Each}
use Rattle.core_charts.specs.declared.region.State.{State}
use Rattle.chart_machine.specs.Table.{state_numbers, subtree_of_state as table_of_state}
use Rattle.chart_machine.specs.Table.{state_at, region_at}
use Rattle.chart_machine.specs.Steps.{state_in}
use Rattle.chart_machine_laws.specs.Tree.{around, holder}
use Rattle.chart_machine_laws.proofs.TableTrees.{NoneInitial, OnceInitial}
use Rattle.abort_expansion.specs.declared.flags.Flags.{Flags}
use Rattle.abort_expansion.specs.Pieces.{StatePiece}
use Rattle.abort_expansion.specs.Expansion.{piece_of_state, places, begins_anew, initial_place}
use Rattle.abort_expansion.specs.Transitions.{go, on, count_down}
use Rattle.abort_expansion_laws.specs.CoreRows.{is_final, counter_over, simple_row}
use Rattle.abort_expansion_laws.proofs.EnteredAlike.{BeginsAs, begins_there, begins_counting}
use Rattle.abort_expansion_laws.proofs.Walked.{World, i}
use Rattle.abort_expansion_laws.proofs.Walks.{StateWalks, pieces_of}
use Rattle.abort_expansion_laws.proofs.WalkStates.{expanded_pieces, EachPlace}
use Rattle.abort_expansion_laws.proofs.InitialStates.{initial_at, HasInitial}

-- whether the first initial one of these states is final
abbrev pub initial_final : List StatePiece → Bool
initial_final [] = false
initial_final (s ∷ states) = if s.is_initial then s.is_final else initial_final states

abbrev any_final : List StatePiece → Bool
any_final states = list_any (λ s. s.is_initial && s.is_final) states

none_final : (states : List State) → Each StateWalks states → NoneInitial (pieces_of states) → any_final (expanded_pieces states) ≡ false
none_final [] walks none = refl
none_final (s ∷ states) walks none = rw (walks.0.counts.initial ∙ none.0) (none_final states walks.1 none.1)

or_false : (b : Bool) → (b || false) ≡ b
or_false true = refl
or_false false = refl

once_final : (states : List State) → Each StateWalks states → OnceInitial (pieces_of states) → any_final (expanded_pieces states) ≡
    initial_final (expanded_pieces states)
once_final [] walks once = refl
once_final (s ∷ states) walks once =
    by_first (piece_of_state s).is_initial refl (once_final states walks.1 once.1)
  where
    by_first : (z : Bool) → (piece_of_state s).is_initial ≡ z → any_final (expanded_pieces states) ≡ initial_final (expanded_pieces states) →
        ((z && (piece_of_state s).is_final) || any_final (expanded_pieces states)) ≡
        (if z then (piece_of_state s).is_final else initial_final (expanded_pieces states))
    by_first true certain rest =
        rw (none_final states walks.1 (once.0 (sym walks.0.counts.initial ∙ certain))) (or_false (piece_of_state s).is_final)
    by_first false denied rest = rest

-- a region begins anew where its initial state is final and that is counted
pub anew_is : (counter : Option ℕ) (states : List State) → Each StateWalks states → OnceInitial (pieces_of states) →
    begins_anew counter (expanded_pieces states) ≡ true → (initial_final (expanded_pieces states) ≡ true) × ((x : ℕ) × (counter ≡ Some x))
anew_is (Some x) states walks once certain = (sym (once_final states walks once) ∙ certain, (x, refl))
anew_is None states walks once certain = absurd cc

pub not_anew : (counter : Option ℕ) (states : List State) → Each StateWalks states → OnceInitial (pieces_of states) →
    begins_anew counter (expanded_pieces states) ≡ false → initial_final (expanded_pieces states) ≡ true → counter ≡ None
not_anew (Some x) states walks once denied final =
    let wrong : true ≡ false = sym final ∙ (sym (once_final states walks once) ∙ denied) in absurd cc
not_anew None states walks once denied final = refl

-- ---- what a region tells of its initial state

module _ (w : World) (r : ℕ) (core_states : List ℕ) where
  pub record Told (x place : ℕ) (final : Bool) : Type 0 where
    pub placed : slice_get core_states place ≡ Some (w.image x).entry
    pub final_is : is_final w.k x ≡ final
    pub held : holder w.k x ≡ r

  pub initial_told : (states : List State) → Each StateWalks states → (flags : List Flags) (n place : ℕ) →
      EachPlace w r core_states (state_numbers (pieces_of states) n) (places (expanded_pieces states) flags place)
      (map (λ s. s.is_final) (expanded_pieces states)) →
      HasInitial (pieces_of states) →
      Told (initial_at (pieces_of states) n) (initial_place (expanded_pieces states) flags place) (initial_final (expanded_pieces states))
  initial_told [] walks flags n place each has = absurd has
  initial_told (s ∷ states) walks flags n place each has =
      by_first (table_of_state s).is_initial (piece_of_state s).is_initial refl walks.0.counts.initial
      (λ some. initial_told states walks.1 flags (n + (table_of_state s).states) (place + (piece_of_state s).width flags) each.1 some)
    where
      by_first : (y z : Bool) → (table_of_state s).is_initial ≡ y → z ≡ y →
          (HasInitial (pieces_of states) →
          Told (initial_at (pieces_of states) (n + (table_of_state s).states))
          (initial_place (expanded_pieces states) flags (place + (piece_of_state s).width flags)) (initial_final (expanded_pieces states))) →
          Told (if y then n else initial_at (pieces_of states) (n + (table_of_state s).states))
          (if z then place else initial_place (expanded_pieces states) flags (place + (piece_of_state s).width flags))
          (if z then (piece_of_state s).is_final else initial_final (expanded_pieces states))
      by_first true true is e later = record { placed = each.0.0; final_is = each.0.1; held = each.0.2 }
      by_first true false is e later = absurd cc
      by_first false true is e later = absurd cc
      by_first false false is e later =
          later (⊎_elim (λ first. let wrong : false ≡ true = sym is ∙ first in absurd cc) (λ some. some) has)

-- what the thread of a region begins with, from where its first states stand
pub begins_as : (w : World) (states : List State) → Each StateWalks states → OnceInitial (pieces_of states) → (counter : Option ℕ) →
    (r x y place t first : ℕ) →
    Told w r (region_at w.core t).states x place (initial_final (expanded_pieces states)) → (i w).thread_of r ≡ t →
    counter_over w.k w.core (i w) (around w.k r) ≡ counter →
    (begins_anew counter (expanded_pieces states) ≡ true →
    (y ≡ first) × (state_at w.core first ≡ simple_row t first (go true None (on counter count_down) place ∷ []))) →
    (begins_anew counter (expanded_pieces states) ≡ false → y ≡ (w.image x).entry) → BeginsAs w.k w.core (i w) r x y
begins_as w states walks once counter r x y place t first told thread_is counter_is anew kept =
    by_anew (begins_anew counter (expanded_pieces states)) refl
  where
    by_anew : (z : Bool) → begins_anew counter (expanded_pieces states) ≡ z → BeginsAs w.k w.core (i w) r x y
    by_anew true certain =
        let final = anew_is counter states walks once certain in
        let there = anew certain in
        begins_counting place final.1.0 (told.final_is ∙ final.0) (counter_is ∙ final.1.1)
        (subst (λ n. state_at w.core n ≡ simple_row ((i w).thread_of r) n (go true None (count_down final.1.0 ∷ []) place ∷ [])) (sym there.0)
        (there.1 ∙
        (ap (λ n. simple_row n first (go true None (on counter count_down) place ∷ [])) (sym thread_is) ∙
        ap (λ o. simple_row ((i w).thread_of r) first (go true None (on o count_down) place ∷ [])) final.1.1)))
        (ap (λ n. state_in w.core n place) thread_is ∙ ap (λ o. unwrap_or o 0) told.placed)
    by_anew false denied =
        begins_there place
        (ap (λ n. slice_get (region_at w.core n).states place) thread_is ∙ (told.placed ∙ ap Some (sym (kept denied)))) (kept denied)
        (λ final. counter_is ∙ not_anew counter states walks once denied (sym told.final_is ∙ final))
