use Rattle.simulation.proofs.Histories.{rest_behind}
use Rattle.std.proofs.lemmas.Grind.{common_steps}
use Rattle.std.proofs.Common.{arith, rules}
use Rattle.simulation.proofs.session.Session.tick.Goals as goal

pub invariant_of-self : goal.invariant_of-self
invariant_of-self c = grind (arith, common_steps) steps 2000000

pub returns-clause-input : goal.returns-clause-input
returns-clause-input c = grind (arith, common_steps) steps 2000000

pub react-requires-clause-rests : goal.react-requires-clause-rests
react-requires-clause-rests c = search (rules, rest_behind)
