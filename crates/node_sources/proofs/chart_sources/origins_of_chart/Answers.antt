use Rattle.node_sources.specs.Read.{IsPlaced}
use Rattle.node_sources.proofs.ChartsTold.{all_sourced, placed_in}
use Rattle.node_sources.proofs.chart_sources.origins_of_chart.Goals as goal

pub returns : goal.returns
returns c =
    let placed : IsPlaced c.args.text.now c.args.kept.now.chart c.in_ok-places.places =
    placed_in c.args.text.now c.args.scl.now c.args.kept.now c.in_ok-places.places c.requires.kept c.in_ok-places.ensures in
    all_sourced c.args.text.now c.args.kept.now.chart c.in_ok-places.places placed c.args.scl.now c.requires.kept.lowers c.args.program.now
    c.requires.graph c.origins_in-origins.result c.origins_in-origins.ensures
