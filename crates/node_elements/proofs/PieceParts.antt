-- What regions become, by their parts.
use Rattle.std.proofs.Common.{◌≡◌, Bool, List, map, ap}
use Rattle.core_charts.specs.declared.region.Region.{Region}
use Rattle.core_charts.specs.declared.region.Region.TheViews.{out-Region}
use Rattle.core_charts.specs.declared.region.Region.TheFolds.{fold_out-Region}
use Rattle.core_charts.specs.declared.elements.numbers.ElementNumbers.{ElementNumbers}
use Rattle.node_elements.specs.declared.expansion.around.Around.{Around}
use Rattle.node_elements.specs.ExpansionOrigins.{RegionPiece, StatePiece, piece_of_region, piece_of_state, region_over, region_piece, state_piece}

pub region_origins : (r : Region) (around : List Around) (counts : Bool) (at : ElementNumbers) →
    (piece_of_region r).origins around counts at ≡ region_over (map piece_of_state (out-Region r).states) around counts at
region_origins r around counts at =
    ap (λ p. p.origins around counts at) (fold_out-Region RegionPiece StatePiece region_piece state_piece r)
