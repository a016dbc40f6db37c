use Rattle.std.proofs.Common.{rules}
use Rattle.std.proofs.lemmas.Int.{wraps}
use Rattle.extended_charts.proofs.making.literal.Goals as goal

pub returns-in_ok-new-in-Int : goal.returns-in_ok-new-in-Int
returns-in_ok-new-in-Int c = search (rules, wraps)
