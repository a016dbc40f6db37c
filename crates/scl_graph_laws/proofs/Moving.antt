-- What threads are at after moves, and where they stand in the graph.
use Rattle.std.proofs.Common.{◌≡◌, ℕ, zero, suc, ◌⊎◌, List, [], ◌∷◌, map, length, set, slice_get, unwrap_or, refl, ap, subst, ◌∙◌, inl, inr, ⊎_elim, length-set}
use Rattle.std.proofs.lemmas.List.{map-set}
use Rattle.sc_graph.specs.declared.control.Status.{Status}
use Rattle.sc_graph.specs.declared.control.Status.TheVariants as status
use Rattle.sc_graph.specs.Steps.{moved as nodes_moved}
use Rattle.scl.specs.Block.{Block}
use Rattle.scl.specs.Meaning.{Doing, Away, moved}
use Rattle.scl_graph_laws.specs.Standing.{standing, IsOfText}

-- what thread t is at, by a list of doings
abbrev pub doing_in : List Doing → ℕ → Doing
doing_in threads t = unwrap_or (slice_get threads t) Away

-- a move of a thread, in the graph
abbrev pub stands : ℕ × Doing → ℕ × Status
stands m = (m.0, standing m.1)

pub standing_in : (threads : List Doing) (t : ℕ) → unwrap_or (slice_get (map standing threads) t) status.Absent ≡ standing (doing_in threads t)
standing_in [] t = refl
standing_in (d ∷ threads) zero = refl
standing_in (d ∷ threads) (suc t) = standing_in threads t

pub moved_alike : (moves : List (ℕ × Doing)) (threads : List Doing) → map standing (moved moves threads) ≡ nodes_moved (map stands moves) (map standing threads)
moved_alike [] threads = refl
moved_alike (m ∷ moves) threads = moved_alike moves (set threads m.0 m.1) ∙ ap (nodes_moved (map stands moves)) (map-set standing threads m.0 m.1)

pub moved_length : (moves : List (ℕ × Doing)) (threads : List Doing) → length (moved moves threads) ≡ length threads
moved_length [] threads = refl
moved_length (m ∷ moves) threads = moved_length moves (set threads m.0 m.1) ∙ length-set threads m.0 m.1

-- each is at a place of its text
abbrev pub AreOfText : Block → List Doing → Type 0
AreOfText root threads = (t : ℕ) → IsOfText root t (doing_in threads t)

abbrev pub MoveWithin : Block → List (ℕ × Doing) → Type 0
MoveWithin root [] = Unit {0}
MoveWithin root (m ∷ moves) = IsOfText root m.0 m.1 × MoveWithin root moves

set_cases : (threads : List Doing) (i t : ℕ) (d : Doing) → ((i ≡ t) × (d ≡ doing_in (set threads i d) t)) ⊎ (doing_in threads t ≡ doing_in (set threads i d) t)
set_cases [] i t d = inr refl
set_cases (x ∷ threads) zero zero d = inl (refl, refl)
set_cases (x ∷ threads) zero (suc t) d = inr refl
set_cases (x ∷ threads) (suc i) zero d = inr refl
set_cases (x ∷ threads) (suc i) (suc t) d = ⊎_elim (λ h. inl (ap suc h.0, h.1)) (λ h. inr h) (set_cases threads i t d)

set_within : (root : Block) (threads : List Doing) (i : ℕ) (d : Doing) → IsOfText root i d → AreOfText root threads → AreOfText root (set threads i d)
set_within root threads i d h all t =
    ⊎_elim
    (λ same. subst (λ d. IsOfText root t d) same.1 (subst (λ i. IsOfText root i d) same.0 h))
    (λ other. subst (λ d. IsOfText root t d) other (all t))
    (set_cases threads i t d)

pub moved_within : (root : Block) (moves : List (ℕ × Doing)) (threads : List Doing) → MoveWithin root moves → AreOfText root threads
    → AreOfText root (moved moves threads)
moved_within root [] threads h all = all
moved_within root (m ∷ moves) threads h all = moved_within root moves (set threads m.0 m.1) h.1 (set_within root threads m.0 m.1 h.0 all)
