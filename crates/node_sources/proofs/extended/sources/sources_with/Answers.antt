use Rattle.std.proofs.Common.{◌≡◌, rules}
use Rattle.node_sources.specs.Nodes.{author_nodes}
use Rattle.node_sources.proofs.Told.{are_sources}
use Rattle.node_sources.proofs.extended.sources.sources_with.Goals as goal

pub returns : goal.returns
returns c =
    let each :
    c.in_ok-nodes.nodes ≡
    author_nodes c.args.lowered.now.placed.chart c.args.lowered.now.placed.origins c.args.lowered.now.placed.places c.args.graph =
    search rules in
    are_sources c.args.text.now c.args.lowered.now c.args.graph c.in_ok-nodes.nodes c.requires.lowered c.requires.graph each
