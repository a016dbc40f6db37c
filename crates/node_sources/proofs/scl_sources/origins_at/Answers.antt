use Rattle.node_sources.proofs.SclTold.{not_missing}
use Rattle.node_sources.proofs.scl_sources.origins_at.Goals as goal

pub unreachable-requires : goal.unreachable-requires
unreachable-requires c =
    not_missing c.args.spots.now c.args.nodes.now c.loop-number.number _ c.point_origin.result c.requires c.loop-number-test.true
    c.point_origin.ensures c.in-None.is
