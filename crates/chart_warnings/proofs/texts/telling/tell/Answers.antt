use Rattle.std.proofs.Common.{rules}
use Rattle.chart_warnings.proofs.texts.telling.tell.Goals as goal

pub returns : goal.returns
returns c = search rules
