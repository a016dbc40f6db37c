-- What a region is as a piece.
use Rattle.std.proofs.Common.{◌≡◌, ℕ, map, ap}
use Rattle.core_charts.specs.declared.region.Region.{Region}
use Rattle.core_charts.specs.declared.region.Region.TheViews.{out-Region}
use Rattle.core_charts.specs.declared.region.Region.TheFolds.{fold_out-Region}
use Rattle.node_states.specs.Nodes.{RegionPiece, StatePiece, region_over, region_piece, state_piece, piece_of_region, piece_of_state}

pub region_nodes : (r : Region) (n : ℕ) → (piece_of_region r).nodes n ≡ region_over (map piece_of_state (out-Region r).states) n
region_nodes r n = ap (λ p. p.nodes n) (fold_out-Region RegionPiece StatePiece region_piece state_piece r)
