use Rattle.abort_expansion.proofs.FewRegions.{keeps_limits}
use Rattle.abort_expansion.proofs.Whole.{core_chart}
use Rattle.std.proofs.Common.{rules}
use Rattle.abort_expansion.proofs.charts.expanded.Goals as goal

pub known-core-requires : goal.known-core-requires
known-core-requires c = search (rules, core_chart)

pub returns : goal.returns
returns c = search (rules, keeps_limits)
