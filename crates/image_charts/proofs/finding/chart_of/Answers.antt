use Rattle.image_charts.proofs.Found.{tells_of}
use Rattle.std.proofs.Common.{rules}
use Rattle.image_charts.proofs.finding.chart_of.Goals as goal

pub returns-clause-found : goal.returns-clause-found
returns-clause-found c = search (rules, tells_of)
