use Rattle.controller_tests.proofs.Verdicts.{no_test}
use Rattle.controller_tests.proofs.command.verdict.try_test.Goals as goal

pub returns-in_ok-lack_said-in-Err-clause-comes : goal.returns-in_ok-lack_said-in-Err-clause-comes
returns-in_ok-lack_said-in-Err-clause-comes g c =
    no_test c.args.writes _ _ c.args.name.now _ c.in-Err.fault c.in-Err.ensures.lacks c.in_ok-lack_said-in-Err.ensures.said
    c.in_ok-lack_said-in-Err.ensures.real c.in-Err.ensures.same
