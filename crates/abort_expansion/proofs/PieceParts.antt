-- What regions and states become, by their parts.
use Rattle.std.proofs.Common.{◌≡◌, ℕ, Bool, true, false, Option, Some, List, [], ◌∷◌, map, length, refl, ap, ◌∙◌}
use Rattle.core_charts.specs.declared.region.Region.{Region}
use Rattle.core_charts.specs.declared.region.State.{State}
use Rattle.core_charts.specs.declared.region.Transition.{Transition}
use Rattle.core_charts.specs.declared.region.Region.TheViews.{out-Region, out-State}
use Rattle.core_charts.specs.declared.region.Region.TheFolds.{fold_out-Region, fold_out-State}
use Rattle.core_charts.specs.Rules.{has_regions}
use Rattle.abort_expansion.specs.declared.flags.Flags.{Flags}
use Rattle.abort_expansion.specs.declared.places.RegionPlaces.{RegionPlaces}
use Rattle.abort_expansion.specs.declared.pieces.NextNumbers.{NextNumbers}
use Rattle.abort_expansion.specs.declared.pieces.StatePieces.{StatePieces}
use Rattle.abort_expansion.specs.Flags.{flags_of, weak_around}
use Rattle.abort_expansion.specs.Pieces.{RegionPiece, StatePiece}
use Rattle.abort_expansion.specs.Superstates.{simple, superstate_over}
use Rattle.abort_expansion.specs.Expansion.{region_piece, state_piece, piece_of_region, piece_of_state, named, inside_region, inside_superstate}
use Rattle.abort_expansion.proofs.Assembled.{as_many}

pub region_made : (r : Region) (around : List Flags) (counter : Option ℕ) (at : NextNumbers)
    → (piece_of_region r).made around counter at ≡ named (out-Region r).name (inside_region (map piece_of_state (out-Region r).states) around counter at)
region_made r around counter at = ap (λ p. p.made around counter at) (fold_out-Region RegionPiece StatePiece region_piece state_piece r)

abbrev alone : Bool → List ℕ → List Transition → List Flags → RegionPlaces → Bool → NextNumbers → StatePieces
alone is_final name own around to begins at =
    record { states = simple is_final name own around to begins ∷ []; variables = []; stands_for = Some at.state ∷ [] }

simple_of : (is_initial is_final : Bool) (name : List ℕ) (regions : List Region) (own : List Transition) (around : List Flags) (to : RegionPlaces) (place : ℕ)
    (begins : Bool) (at : NextNumbers)
    → has_regions regions ≡ false
    → (state_piece (record { name = name; is_initial = is_initial; is_final = is_final; regions = map piece_of_region regions; transitions = own })).made around
    to place begins at ≡
    alone is_final name own around to begins at
simple_of is_initial is_final name [] own around to place begins at none = refl
simple_of is_initial is_final name (r ∷ regions) own around to place begins at none = absurd cc

pub simple_made : (s : State) (around : List Flags) (to : RegionPlaces) (place : ℕ) (begins : Bool) (at : NextNumbers)
    → has_regions (out-State s).regions ≡ false
    → (piece_of_state s).made around to place begins at ≡ alone (out-State s).is_final (out-State s).name (out-State s).transitions around to begins at
simple_made s around to place begins at none =
    ap (λ p. p.made around to place begins at) (fold_out-State RegionPiece StatePiece region_piece state_piece s)
    ∙ simple_of (out-State s).is_initial (out-State s).is_final (out-State s).name (out-State s).regions (out-State s).transitions around to place begins at
    none

abbrev over : List ℕ → List Region → List Transition → List Flags → RegionPlaces → ℕ → Bool → NextNumbers → StatePieces
over name regions own around to place begins at =
    let flags : Flags = flags_of (weak_around around) own at.variable in
    superstate_over name (length regions) own around flags (inside_superstate (map piece_of_region regions) own around flags at) to place begins at

superstate_of : (is_initial is_final : Bool) (name : List ℕ) (regions : List Region) (own : List Transition) (around : List Flags)
    (to : RegionPlaces) (place : ℕ)
    (begins : Bool) (at : NextNumbers)
    → has_regions regions ≡ true
    → (state_piece (record { name = name; is_initial = is_initial; is_final = is_final; regions = map piece_of_region regions; transitions = own })).made around
    to place begins at ≡
    over name regions own around to place begins at
superstate_of is_initial is_final name [] own around to place begins at some = absurd cc
superstate_of is_initial is_final name (r ∷ regions) own around to place begins at some =
    let flags : Flags = flags_of (weak_around around) own at.variable in
    ap (λ n. superstate_over name n own around flags (inside_superstate (map piece_of_region (r ∷ regions)) own around flags at) to place begins at)
    (as_many (r ∷ regions))

pub superstate_made : (s : State) (around : List Flags) (to : RegionPlaces) (place : ℕ) (begins : Bool) (at : NextNumbers)
    → has_regions (out-State s).regions ≡ true
    → (piece_of_state s).made around to place begins at ≡ over (out-State s).name (out-State s).regions (out-State s).transitions around to place begins at
superstate_made s around to place begins at some =
    ap (λ p. p.made around to place begins at) (fold_out-State RegionPiece StatePiece region_piece state_piece s)
    ∙ superstate_of (out-State s).is_initial (out-State s).is_final (out-State s).name (out-State s).regions (out-State s).transitions around to place begins at
    some
