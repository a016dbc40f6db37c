use Rattle.std.proofs.Common.{◌∙◌}
use Rattle.controller_tests.proofs.Verdicts.{judged_again, unread}
use Rattle.controller_tests.proofs.command.verdict.compare.Goals as goal

pub returns-clause-comes : goal.returns-clause-comes
returns-clause-comes g c =
    unread c.args.writes _ _ c.args.name.now _ _ c.in-Err.fault (c.as_str.ensures.value ∙ c.in_ok-trace_name.ensures) c.in-Err.ensures.same
    c.requires.taken c.in-Err.ensures.fault c.in_ok-lack_said-in-Err.ensures.said c.in_ok-lack_said-in-Err.ensures.real

pub returns-in-Ok-clause-comes : goal.returns-in-Ok-clause-comes
returns-in-Ok-clause-comes g c =
    judged_again c.args.writes _ _ c.args.name.now _ _ _ _ _ _ _ (c.as_str.ensures.value ∙ c.in_ok-trace_name.ensures) c.in-Ok.ensures.same
    c.requires.has c.in-Ok.ensures.bytes c.deref.ensures.value c.in_ok-judge-in-Ok.ensures
