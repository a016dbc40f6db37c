use Rattle.image_charts.proofs.StoodFor.{authors_are_told}
use Rattle.image_charts.proofs.laws.authors_are_told.Goals as goal

pub returns : goal.returns
returns c = authors_are_told
