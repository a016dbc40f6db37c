use Rattle.tick_core.proofs.ListedCopied.{spare_listed}
use Rattle.std.proofs.Common.{rules}
use Rattle.tick_core.proofs.state.parking.ParkedSpace.fill.Goals as goal

pub returns : goal.returns
returns c = search (rules, spare_listed)
