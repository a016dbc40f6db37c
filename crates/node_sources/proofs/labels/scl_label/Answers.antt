use Rattle.std.proofs.Common.{◌≡◌, rules}
use Rattle.node_sources.specs.Labels.{IsLabel}
use Rattle.node_sources.specs.SclOrigins.{spots_of}
use Rattle.node_sources.proofs.LabelsTold.{scl_labelled}
use Rattle.node_sources.proofs.labels.scl_label.Goals as goal

pub returns : goal.returns
returns c =
    let label : IsLabel c.args.scl.now c.args.label c.in-Some.number = rw c.in-Some.is at c.in_ok-number.ensures in
    let made : c.as_slice-3.result.now ≡ spots_of c.in_ok-tokens.tokens c.args.draft.now.statements = search rules in
    scl_labelled c.args.text.now c.args.draft.now c.in_ok-tokens.tokens c.args.scl.now c.args.label c.in-Some.number c.as_slice-3.result.now
    c.first_origin.result c.requires.drafted c.in_ok-tokens.ensures c.requires.spelled label made c.first_origin.ensures
