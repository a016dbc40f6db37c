use Rattle.std.proofs.Common.{◌≡◌, List, string_bytes, ap, ◌∙◌}
use Rattle.chart_warnings.specs.declared.warning.Warning.{Warning}
use Rattle.chart_warnings.specs.Author.{author_warnings}
use Rattle.chart_warnings.proofs.ToldOfAuthor.{warned}
use Rattle.chart_warnings.proofs.extended.telling.told_over.Goals as goal

pub returns : goal.returns
returns c =
    let places : _ = c.in_ok-places.places in
    let slice : List Warning = c.as_slice-2.result.now in
    let owned : c.in_ok-own.own ≡ author_warnings c.args.rows.now.states places slice =
    c.in_ok-own.ensures ∙ ap (λ states. author_warnings states places slice) c.as_slice.ensures in
    warned c.args.name.now c.args.text.now c.args.draft.now c.requires.sound c.args.chart.now c.args.rows.now c.requires.reduction places
    c.in_ok-warnings.warnings slice c.in_ok-own.own c.as_slice-3.result.now c.in_ok-places.ensures c.in_ok-warnings.ensures c.as_slice-2.ensures
    owned c.as_slice-3.ensures string_bytes c.reports_of.result c.reports_of.ensures
