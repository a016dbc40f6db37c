use Rattle.std.proofs.Common.{◌≡◌, map, refl, rules}
use Rattle.node_sources.specs.Places.{places_of}
use Rattle.node_sources.specs.Read.{IsPlaced}
use Rattle.node_elements.specs.ExpansionOrigins.{expansion_origins}
use Rattle.node_elements.specs.LoweringOrigins.{point_origins}
use Rattle.node_elements.specs.Origins.{through}
use Rattle.node_sources.proofs.ChartsTold.{placed_in}
use Rattle.node_sources.proofs.LabelsTold.{chart_label_answered}
use Rattle.node_sources.proofs.labels.chart_label_at.Goals as goal

pub returns : goal.returns
returns c =
    let placed : IsPlaced c.args.text.now c.args.kept.now.chart (places_of c.args.kept.now.draft) =
    placed_in c.args.text.now c.args.scl.now c.args.kept.now (places_of c.args.kept.now.draft) c.requires.kept refl in
    let made : c.as_slice.result.now ≡ map (through (expansion_origins c.args.kept.now.chart)) (point_origins c.args.kept.now.core) = search rules in
    chart_label_answered c.args.text.now c.args.kept.now.chart (places_of c.args.kept.now.draft) c.args.scl.now c.args.label c.args.number
    c.args.kept.now.core c.as_slice.result.now c.drafted_origin.result placed c.requires.kept.lowers c.requires.label c.requires.kept.core made
    c.drafted_origin.ensures
