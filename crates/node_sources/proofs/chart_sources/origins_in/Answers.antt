use Rattle.std.proofs.Common.{◌≡◌, rules}
use Rattle.node_elements.specs.Origins.{node_elements}
use Rattle.node_sources.proofs.ChartsTold.{each_located}
use Rattle.node_sources.proofs.chart_sources.origins_in.Goals as goal

pub origins_of-requires : goal.origins_of-requires
origins_of-requires c =
    let elements : c.as_slice.result.now ≡ node_elements c.args.kept.now.chart = search rules in
    each_located c.args.text.now c.args.kept.now.chart c.args.places.now c.requires.placed c.args.scl.now c.requires.kept.lowers
    c.args.program.now c.requires.graph c.places_tell_texts.ensures c.elements_tell_nodes.ensures c.as_slice.result.now elements
