use Rattle.std.proofs.Common.{refl, ◌∙◌, ap}
use Rattle.sc_text.specs.Resolved.{variables_of}
use Rattle.chart_reader.proofs.Whole.{parts_are, parts_kept}
use Rattle.chart_reader.proofs.chart.chart_of.Goals as goal

pub known-requires : goal.known-requires
known-requires c =
    parts_kept c.args.draft.now c.args.draft.now.variables refl c.in_ok-variables.variables c.in_ok-regions.regions
    (c.in_ok-variables.ensures ∙ ap variables_of c.as_slice.ensures) c.in_ok-regions.ensures c.requires.flawless c.requires.shaped

pub returns : goal.returns
returns c =
    c.known.ensures
    ∙ parts_are c.args.draft.now c.args.draft.now.variables refl c.in_ok-variables.variables c.in_ok-regions.regions
    (c.in_ok-variables.ensures ∙ ap variables_of c.as_slice.ensures) c.in_ok-regions.ensures
