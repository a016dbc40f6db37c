use Rattle.std.proofs.Common.{subst}
use Rattle.chart_reduction.specs.Reduction.{LacksChart}
use Rattle.node_sources.proofs.Reading.{is_placed, passes_limit}
use Rattle.node_sources.proofs.extended.text_places.placed.placed_from.Goals as goal

pub returns-in_ok-with_places-in-Ok : goal.returns-in_ok-with_places-in-Ok
returns-in_ok-with_places-in-Ok c =
    let placed = c.in_ok-with_places-in-Ok in
    is_placed c.args.text.now c.args.draft.now c.args.extended.now c.in-Ok.made.0 c.in-Ok.made.1 placed.field-0 c.requires.sound
    c.requires.extended c.in-Ok.ensures placed.ensures.chart placed.ensures.origins placed.ensures.places

pub returns-in-Err-Limit : goal.returns-in-Err-Limit
returns-in-Err-Limit c =
    passes_limit c.args.text.now c.args.draft.now c.args.extended.now c.requires.sound c.requires.extended
    (subst (LacksChart c.args.extended.now) c.in-Err-Limit.field-0-is c.in-Err-Limit.ensures)
