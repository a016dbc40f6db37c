use Rattle.std.proofs.lemmas.Grind.{common_steps, elements}
use Rattle.std.proofs.Common.{◌∙◌, arith}
use Rattle.controller_tests.proofs.Verdicts.{not_stored}
use Rattle.controller_tests.proofs.command.verdict.write.Goals as goal

pub returns-clause-comes : goal.returns-clause-comes
returns-clause-comes g c =
    not_stored _ _ c.args.name.now _ _ c.in-Err-store_new.fault (c.as_str.ensures.value ∙ c.in_ok-trace_name.ensures) c.requires.free
    c.in-Err-store_new.ensures.fault c.in_ok-lack_said-in-Err-store_new.ensures.said c.in_ok-lack_said-in-Err-store_new.ensures.real
    c.in-Err-store_new.ensures.same

pub returns-clause-none_missed : goal.returns-clause-none_missed
returns-clause-none_missed g c = grind (arith, common_steps) steps 2000000

pub returns-in-Ok-store_new-clause-comes : goal.returns-in-Ok-store_new-clause-comes
returns-in-Ok-store_new-clause-comes g c = grind (arith, elements) steps 2000000
