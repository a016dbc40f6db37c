use Rattle.std.proofs.Common.{string_bytes, subst}
use Rattle.image_charts.specs.Written.{HasNoChart, IsNoTextBeside}
use Rattle.controller_tests.proofs.Verdicts.{no_states}
use Rattle.controller_tests.proofs.command.states.active_said.Goals as goal

-- src/states.rt:30:1
pub returns-in_ok-_text-in-Err : goal.returns-in_ok-_text-in-Err
returns-in_ok-_text-in-Err c =
    no_states c.args.name.now c.args.test.now.bytes.items c.args.test.now.image c.args.test.now.ticks.items
    (string_bytes c.new-in-Err.result) c.args.line c.in-Err.fault c.new-in-Err.ensures.bytes
    (subst (λ z. ¬ HasNoChart z) c.deref.ensures.value c.in-Err.ensures.refused)
    (subst (λ z. IsNoTextBeside c.args.name.now z c.args.test.now.image c.in-Err.fault) c.deref.ensures.value
    (subst (λ z. IsNoTextBeside c.args.name.now c.deref.result.now z c.in-Err.fault) c.get.ensures c.in-Err.ensures.lacks))
    c.in_ok-_text-in-Err.ensures.real
