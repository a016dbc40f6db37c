use Rattle.std.proofs.Common.{◌≡◌, map, rules}
use Rattle.node_elements.specs.ExpansionOrigins.{expansion_origins}
use Rattle.node_elements.specs.LoweringOrigins.{point_origins}
use Rattle.node_elements.specs.Origins.{through}
use Rattle.node_sources.proofs.Told.{is_label}
use Rattle.node_sources.proofs.extended.labels.label_from.Goals as goal

pub returns : goal.returns
returns c =
    let made :
    c.as_slice.result.now ≡ map (through (expansion_origins c.args.lowered.now.placed.chart)) (point_origins c.args.lowered.now.core) =
    search rules in
    is_label c.args.text.now c.args.label c.args.lowered.now c.args.number c.as_slice.result.now c.label_at.result c.requires.lowered
    c.requires.label made c.label_at.ensures
