-- What each state of a region tells of its place, and which one the first core state of its thread stands for.
use Rattle.std.proofs.Common.{if◌then◌else◌}
use Rattle.std.proofs.Common.{◌≡◌, ℕ, zero, suc, ◌+◌, ◌<◌, ⊎_elim, Bool, true, false}
use Rattle.std.proofs.Common.{◌||◌, ◌&&◌, Option, Some, None, List, [], ◌∷◌, length, slice_get}
use Rattle.std.proofs.Common.{unwrap_or, refl, sym, ap, subst, arith}
use Rattle.std.specs.List.{list_any}
use Rattle.std.proofs.lemmas.Option.{none-some, slice_get_past}
use Rattle.sc_text.proofs.EachItem.{Each}
use Rattle.core_charts.specs.declared.region.State.{State}
use Rattle.chart_machine.specs.declared.table.RegionRow.{RegionRow}
use Rattle.chart_machine.specs.declared.table.Table.{Table}
use Rattle.chart_machine.specs.Table.{Subtree, region_at}
use Rattle.chart_machine.specs.Table.{state_numbers}
use Rattle.chart_machine.proofs.Outside.{within_or_past}
use Rattle.chart_machine_laws.specs.Tree.{IsThere, holder}
use Rattle.abort_expansion.specs.Pieces.{StatePiece}
use Rattle.abort_expansion.specs.Expansion.{piece_of_state}
use Rattle.abort_expansion.specs.Expansion.{begins_anew, initial_number}
use Rattle.abort_expansion_laws.specs.CoreRows.{is_final}
use Rattle.abort_expansion_laws.proofs.Walked.{World}
use Rattle.abort_expansion_laws.proofs.Walks.{StateWalks, pieces_of}
use Rattle.abort_expansion_laws.proofs.WalkStates.{expanded_pieces, EachPlace}

-- ---- what each state of a region tells

pub region_there_at : (k : Table) (r q s : ℕ) → slice_get (region_at k r).states q ≡ Some s → IsThere k r
region_there_at k zero q s e = absurd (none-some s e)
region_there_at k (suc r) q s e =
    ⊎_elim (λ lt. (omega arith, omega (lt, arith)))
    (λ past.
    let none : (region_at k (suc r)).states ≡ [] =
    ap (λ (o : Option RegionRow). (unwrap_or {T = RegionRow} o (record { around = []; states = [] })).states) (slice_get_past k.regions r past) in
    absurd (none-some s (subst (λ zs. slice_get zs q ≡ Some s) none e))) (within_or_past r (length k.regions))

module _ (w : World) (r : ℕ) (core_states : List ℕ) where
  pub each_place : (ns ps : List ℕ) (fs : List Bool) → EachPlace w r core_states ns ps fs → (p : ℕ) → p < length ns →
      (slice_get core_states (unwrap_or (slice_get ps p) 0) ≡ Some (w.image (unwrap_or (slice_get ns p) 0)).entry)
      × (unwrap_or (slice_get fs p) false ≡ is_final w.k (unwrap_or (slice_get ns p) 0)) × (holder w.k (unwrap_or (slice_get ns p) 0) ≡ r)
  each_place [] ps fs h p lt = absurd (omega (lt, arith))
  each_place (n ∷ ns) [] fs h p lt = absurd h
  each_place (n ∷ ns) (q ∷ ps) [] h p lt = absurd h
  each_place (n ∷ ns) (q ∷ ps) (x ∷ fs) h zero lt = (h.0.0, sym h.0.1, h.0.2)
  each_place (n ∷ ns) (q ∷ ps) (x ∷ fs) h (suc p) lt = each_place ns ps fs h.1 p (omega (lt, arith))

  pub first_there : (n : ℕ) (ns ps : List ℕ) (fs : List Bool) → EachPlace w r core_states (n ∷ ns) ps fs →
      (q : ℕ) × (slice_get core_states q ≡ Some (w.image n).entry) × (holder w.k n ≡ r)
  first_there n ns [] fs h = absurd h
  first_there n ns (q ∷ ps) [] h = absurd h
  first_there n ns (q ∷ ps) (x ∷ fs) h = (q, h.0.0, h.0.2)

  -- the initial state of the region is one of its states
  pub initial_held : (states : List State) → Each StateWalks states → (n : ℕ) (ps : List ℕ) (fs : List Bool) →
      EachPlace w r core_states (state_numbers (pieces_of states) n) ps fs →
      list_any (λ s. s.is_initial && s.is_final) (expanded_pieces states) ≡ true → holder w.k (initial_number (expanded_pieces states) n) ≡ r
  initial_held [] walks n ps fs h some = absurd cc
  initial_held (s ∷ states) walks n [] fs h some = absurd h
  initial_held (s ∷ states) walks n (q ∷ ps) [] h some = absurd h
  initial_held (s ∷ states) walks n (q ∷ ps) (x ∷ fs) h some =
      by_first (piece_of_state s).is_initial (piece_of_state s).is_final some
      (λ later.
      initial_held states walks.1 (n + (piece_of_state s).states) ps fs
      (subst (λ m. EachPlace w r core_states (state_numbers (pieces_of states) m) ps fs) (ap (λ m. n + m) (sym walks.0.counts.states)) h.1) later)
    where
      by_first : (initial final : Bool) →
          ((initial && final) || list_any (λ s. s.is_initial && s.is_final) (expanded_pieces states)) ≡ true →
          (list_any (λ s. s.is_initial && s.is_final) (expanded_pieces states) ≡ true →
          holder w.k (initial_number (expanded_pieces states) (n + (piece_of_state s).states)) ≡ r) →
          holder w.k (if initial then n else initial_number (expanded_pieces states) (n + (piece_of_state s).states)) ≡ r
      by_first true final some later = h.0.2
      by_first false final some later = later some

pub begins_where : (counter : Option ℕ) (pieces : List StatePiece) → begins_anew counter pieces ≡ true →
    list_any (λ s. s.is_initial && s.is_final) pieces ≡ true
begins_where (Some x) pieces h = h
begins_where None pieces h = absurd cc

pub first_number : (pieces : List Subtree) (n q x : ℕ) → slice_get (state_numbers pieces n) q ≡ Some x → unwrap_or (slice_get (state_numbers pieces n) 0) 0 ≡ n
first_number [] n q x e = absurd (none-some x e)
first_number (p ∷ pieces) n q x e = refl
