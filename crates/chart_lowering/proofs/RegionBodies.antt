-- What a region is as a piece.
use Rattle.std.proofs.Common.{◌≡◌, ℕ, suc, ◌+◌, map, ap}
use Rattle.core_charts.specs.declared.region.Region.{Region}
use Rattle.core_charts.specs.declared.region.Region.TheViews.{out-Region}
use Rattle.core_charts.specs.declared.region.Region.TheFolds.{fold_out-Region}
use Rattle.chart_lowering.specs.Lowering.{RegionPiece, StatePiece, labels_in_initial, labels_in_states, numbers, body_from, region_piece, state_piece}
use Rattle.chart_lowering.specs.Lowering.{piece_of_region, piece_of_state}

pub region_body : (r : Region) (n : ℕ) → (piece_of_region r).body n ≡
    body_from (map piece_of_state (out-Region r).states)
    (numbers (map piece_of_state (out-Region r).states) n (n + labels_in_initial (map piece_of_state (out-Region r).states)))
    (n + labels_in_states (map piece_of_state (out-Region r).states))
region_body r n = ap (λ p. p.body n) (fold_out-Region RegionPiece StatePiece region_piece state_piece r)

pub region_labels : (r : Region) → (piece_of_region r).labels ≡ suc (labels_in_states (map piece_of_state (out-Region r).states))
region_labels r = ap (λ p. p.labels) (fold_out-Region RegionPiece StatePiece region_piece state_piece r)
