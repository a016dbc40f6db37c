-- Where a fork begins, seen through the spots of its branches.
use Rattle.std.proofs.Common.{◌≡◌, ℕ, List, [], ◌∷◌, refl}
use Rattle.scl_reader.specs.declared.text_drafts.statement.TextStatement.{TextStatement}
use Rattle.node_sources.specs.SclOrigins.{branch_spots, opening}

pub opening_of_spots : (branches : List (ℕ × List TextStatement)) → opening (branch_spots branches) ≡ opening branches
opening_of_spots [] = refl
opening_of_spots (b ∷ branches) = refl
