use Rattle.std.proofs.lemmas.Grind.{common_steps}
use Rattle.extended_reader.proofs.ModulesInOrder.{modules_wrong, text_put, text_wrong, uses_wrong}
use Rattle.std.proofs.Common.{rules, arith}
use Rattle.extended_reader.proofs.modules.whole.put_together.Goals as goal

pub returns : goal.returns
returns c = search (rules, modules_wrong, uses_wrong, text_put, text_wrong)

pub returns-in_err-items : goal.returns-in_err-items
returns-in_err-items c = grind (arith, common_steps) steps 2000000
