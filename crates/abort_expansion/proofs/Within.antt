-- Where the states of a region are behind expansion: each is within it, and exactly one is initial.
use Rattle.std.proofs.Common.{◌≡◌, ℕ, zero, suc, ◌+◌, ◌<◌, ◌≤◌, Bool, true, false, cond, ◌||◌, ◌&&◌, IsTrue, if◌then◌else◌, Option, List, [], ◌∷◌, map, length}
use Rattle.std.proofs.Common.{slice_get, unwrap_or, refl, ap, arith}
use Rattle.std.specs.List.{list_any}
use Rattle.sc_graph.specs.declared.program.Variable.{Variable}
use Rattle.core_charts.specs.declared.region.State.{State}
use Rattle.core_charts.specs.declared.region.Region.TheViews.{out-State}
use Rattle.core_charts.specs.declared.region.Region.TheFolds.{fold_out-State}
use Rattle.sc_text.proofs.EachItem.{Each}
use Rattle.abort_expansion.specs.declared.flags.Flags.{Flags}
use Rattle.abort_expansion.specs.Flags.{one, aborts_around}
use Rattle.abort_expansion.specs.Pieces.{RegionPiece, StatePiece}
use Rattle.abort_expansion.specs.Expansion.{region_piece, state_piece, piece_of_state, places, widths, initial_place, region_places}
use Rattle.abort_expansion.proofs.Taken.{IsFlagIfAny, AreFlags}
use Rattle.abort_expansion.proofs.Joined.{AllKeep, IsOuter, initial_of, initial_in}

place_within : (variables : List Variable) (levels m : ℕ) (states : List State) (around : List Flags) (begin target : ℕ) → AllKeep variables levels m states
    → target < length states → unwrap_or (slice_get (places (map piece_of_state states) around begin) target) 0 < begin + widths
    (map piece_of_state states) around
place_within variables levels m [] around begin target h below = absurd (omega (arith, below))
place_within variables levels m (s ∷ states) around begin zero h below = omega (arith, h.0.least around)
place_within variables levels m (s ∷ states) around begin (suc target) h below =
    omega (arith, place_within variables levels m states around (begin + (piece_of_state s).width around) target h.1 (omega (arith, below)))

left_within : (b : Bool) (n : ℕ) → IsTrue b → n < n + one b
left_within true n h = omega arith
left_within false n h = absurd cc

-- a region of these states, where the first one has the place `begin`, is a outer
pub region_outer : (variables : List Variable) (levels m n : ℕ) (states : List State) (around : List Flags) (counter : Option ℕ) (begin : ℕ)
    → AllKeep variables levels m states → m ≡ length states → Each (AreFlags variables) around → IsFlagIfAny variables counter
    → n ≡ begin + widths (map piece_of_state states) around + one (aborts_around around)
    → IsOuter variables m n around (region_places (map piece_of_state states) around counter begin)
region_outer variables levels m n states around counter begin h is_m flags counted is_n = record {
  flags = flags;
  left = λ there. omega (arith, left_within (aborts_around around) (begin + widths (map piece_of_state states) around) there, is_n);
  places = record {
    counter = counted;
    within = λ target below. omega (arith, place_within variables levels m states around begin target h (omega (arith, below, is_m)), is_n);
  };
}

-- ---- the initial state

same_initial : (s : State) → (piece_of_state s).is_initial ≡ (out-State s).is_initial
same_initial s = ap (λ p. p.is_initial) (fold_out-State RegionPiece StatePiece region_piece state_piece s)

initial_place_in : (c : Bool) (begin width rest later : ℕ) → 1 ≤ width → (c ≡ false → later < begin + width + rest)
    → (if c then begin else later) < begin + (width + rest)
initial_place_in true begin width rest later least h = omega (arith, least)
initial_place_in false begin width rest later least h = omega (arith, h refl)

any_later : (i f rest : Bool) → i ≡ false → ((i && f) || rest) ≡ true → rest ≡ true
any_later true f rest none h = absurd cc
any_later false f rest none h = h

-- where a final state is initial, the initial one is within the region
pub initial_within : (variables : List Variable) (levels m : ℕ) (states : List State) (around : List Flags) (begin : ℕ) → AllKeep variables levels m states
    → list_any (λ s. s.is_initial && s.is_final) (map piece_of_state states) ≡ true
    → initial_place (map piece_of_state states) around begin < begin + widths (map piece_of_state states) around
initial_within variables levels m [] around begin h some = absurd cc
initial_within variables levels m (s ∷ states) around begin h some =
    let p : StatePiece = piece_of_state s in
    initial_place_in p.is_initial begin (p.width around) (widths (map piece_of_state states) around)
    (initial_place (map piece_of_state states) around (begin + p.width around)) (h.0.least around)
    (λ none. initial_within variables levels m states around (begin + p.width around) h.1
    (any_later p.is_initial p.is_final (list_any (λ z. z.is_initial && z.is_final) (map piece_of_state states)) none some))

still_one : (b c : Bool) (m n : ℕ) → b ≡ c → m ≡ n → one (b && true) + m ≡ cond c (1 + n) n
still_one true true m n is same = omega (arith, same)
still_one true false m n is same = absurd cc
still_one false true m n is same = absurd cc
still_one false false m n is same = omega (arith, same)

pub initial_still : (states : List State) → initial_of false (map piece_of_state states) ≡ initial_in states
initial_still [] = refl
initial_still (s ∷ states) =
    still_one (piece_of_state s).is_initial (out-State s).is_initial (initial_of false (map piece_of_state states)) (initial_in states) (same_initial s)
    (initial_still states)

and_never : (b : Bool) → one (b && false) ≡ 0
and_never true = refl
and_never false = refl

pub initial_no_more : (states : List State) → initial_of true (map piece_of_state states) ≡ 0
initial_no_more [] = refl
initial_no_more (s ∷ states) = omega (arith, and_never (piece_of_state s).is_initial, initial_no_more states)
