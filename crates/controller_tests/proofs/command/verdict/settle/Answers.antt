use Rattle.controller_tests.proofs.Verdicts.{where_wanted}
use Rattle.std.proofs.Common.{rules}
use Rattle.controller_tests.proofs.command.verdict.settle.Goals as goal

pub returns-clause-comes : goal.returns-clause-comes
returns-clause-comes g c = search (rules, where_wanted)

pub returns-then-is_free-clause-comes : goal.returns-then-is_free-clause-comes
returns-then-is_free-clause-comes g c = search (rules, where_wanted)
