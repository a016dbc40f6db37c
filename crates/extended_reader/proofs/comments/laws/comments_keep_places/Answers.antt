use Rattle.extended_reader.proofs.Places.{stays_long, lines_stay}
use Rattle.extended_reader.proofs.comments.laws.comments_keep_places.Goals as goal

pub returns : goal.returns
returns c = record { long = stays_long; lines = lines_stay }
