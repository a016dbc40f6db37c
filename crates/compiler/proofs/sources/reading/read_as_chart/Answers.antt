use Rattle.chart_reader.proofs.Reading.{shaped}
use Rattle.std.proofs.Common.{rules}
use Rattle.compiler.proofs.sources.reading.read_as_chart.Goals as goal

pub chart_of-requires-clause-shaped : goal.chart_of-requires-clause-shaped
chart_of-requires-clause-shaped c = search (rules, shaped)
