use Rattle.chart_reader.proofs.Reading.{shaped}
use Rattle.node_sources.proofs.chart_places.read.placed_of.Goals as goal

pub chart_of-requires-clause-shaped : goal.chart_of-requires-clause-shaped
chart_of-requires-clause-shaped c = shaped c.args.text.now c.args.draft.now c.requires
