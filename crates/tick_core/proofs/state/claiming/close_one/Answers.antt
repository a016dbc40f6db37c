use Rattle.tick_core.proofs.Opened.{none_counted_there}
use Rattle.std.proofs.lemmas.Grind.{common_steps}
use Rattle.std.proofs.Common.{arith, rules}
use Rattle.tick_core.proofs.state.claiming.close_one.Goals as goal

pub returns-then-is_some-clause-counted : goal.returns-then-is_some-clause-counted
returns-then-is_some-clause-counted c = grind (arith, common_steps) steps 2000000

pub returns-else-is_some-clause-closed : goal.returns-else-is_some-clause-closed
returns-else-is_some-clause-closed c = grind (arith, common_steps) steps 2000000

pub returns-then-claimed-eq0-clause-closed : goal.returns-then-claimed-eq0-clause-closed
returns-then-claimed-eq0-clause-closed c = search (rules, none_counted_there)
