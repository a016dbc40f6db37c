use Rattle.extended_reader.proofs.ModulesInOrder.{modules_end, modules_go}
use Rattle.std.proofs.Common.{rules}
use Rattle.extended_reader.proofs.modules.whole.all_modules.Goals as goal

pub loop-count-preserved : goal.loop-count-preserved
loop-count-preserved c = search (rules, modules_go)

pub returns-then-not-begins : goal.returns-then-not-begins
returns-then-not-begins c = search (rules, modules_end)

pub returns-in_err-module : goal.returns-in_err-module
returns-in_err-module c = search rules
