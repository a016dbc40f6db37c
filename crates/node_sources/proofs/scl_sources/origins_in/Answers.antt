use Rattle.std.proofs.Common.{◌≡◌, rules}
use Rattle.node_elements.specs.GraphOrigins.{node_origins}
use Rattle.node_sources.specs.SclOrigins.{spots_of}
use Rattle.node_sources.proofs.SclTold.{each_located}
use Rattle.node_sources.proofs.scl_sources.origins_in.Goals as goal

pub origins_at-requires : goal.origins_at-requires
origins_at-requires c =
    let spots : c.as_slice-3.result.now ≡ spots_of c.args.tokens.now c.args.draft.now.statements = search rules in
    let nodes : c.as_slice-4.result.now ≡ node_origins c.args.scl.now.body = search rules in
    each_located c.args.text.now c.args.draft.now c.requires.drafted c.args.tokens.now c.requires.cut c.args.scl.now c.requires.spelled
    c.origins_tell_nodes.ensures c.as_slice-3.result.now spots c.as_slice-4.result.now nodes
