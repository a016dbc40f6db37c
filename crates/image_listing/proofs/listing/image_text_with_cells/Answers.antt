use Rattle.std.proofs.Common.{arith}
use Rattle.std.proofs.lemmas.Grind.{elements}
use Rattle.image_listing.proofs.listing.image_text_with_cells.Goals as goal

pub returns : goal.returns
returns c = grind (arith, elements) steps 2000000
