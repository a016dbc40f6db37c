use Rattle.extended_reader.proofs.Reading.{shaped}
use Rattle.node_sources.proofs.extended.text_places.placed.placed_of.Goals as goal

pub extended_of-requires-clause-flawless : goal.extended_of-requires-clause-flawless
extended_of-requires-clause-flawless c = c.requires.sound.flawless

pub extended_of-requires-clause-shaped : goal.extended_of-requires-clause-shaped
extended_of-requires-clause-shaped c = shaped c.args.text.now c.args.draft.now c.requires.sound
