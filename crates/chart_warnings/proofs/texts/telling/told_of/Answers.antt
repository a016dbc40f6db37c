use Rattle.std.proofs.Common.{string_bytes}
use Rattle.chart_reader.proofs.Reading.{shaped}
use Rattle.chart_warnings.proofs.Warned.{warned}
use Rattle.chart_warnings.proofs.texts.telling.told_of.Goals as goal

pub chart_of-requires-clause-shaped : goal.chart_of-requires-clause-shaped
chart_of-requires-clause-shaped c = shaped c.args.text.now c.args.draft.now c.requires.sound

pub returns : goal.returns
returns c =
    warned c.args.name.now c.args.text.now c.args.draft.now c.requires.sound c.in_ok-chart.chart c.in_ok-warnings.warnings
    c.as_slice.result.now c.in_ok-places.places c.in_ok-chart.ensures c.in_ok-warnings.ensures c.as_slice.ensures c.in_ok-places.ensures
    string_bytes c.reports_of.result c.reports_of.ensures
