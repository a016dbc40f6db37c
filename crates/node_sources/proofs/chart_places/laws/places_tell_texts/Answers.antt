use Rattle.node_sources.proofs.Telling.{places_tell}
use Rattle.node_sources.proofs.chart_places.laws.places_tell_texts.Goals as goal

pub returns : goal.returns
returns c = places_tell
