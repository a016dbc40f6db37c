use Rattle.chart_reader.proofs.Reading.{shaped}
use Rattle.std.proofs.Common.{rules}
use Rattle.chart_reader.proofs.read.read_chart.Goals as goal

pub chart_of-made-requires-clause-shaped : goal.chart_of-made-requires-clause-shaped
chart_of-made-requires-clause-shaped c = search (rules, shaped)
