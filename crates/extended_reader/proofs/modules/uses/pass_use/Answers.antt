use Rattle.extended_reader.proofs.UsesInOrder.{use_round}
use Rattle.std.proofs.Common.{rules}
use Rattle.extended_reader.proofs.modules.uses.pass_use.Goals as goal

pub returns-clause-goes : goal.returns-clause-goes
returns-clause-goes c = search (rules, use_round)
