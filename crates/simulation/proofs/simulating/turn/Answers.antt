use Rattle.std.proofs.lemmas.Grind.{common_steps}
use Rattle.std.proofs.Common.{◌≡◌, ◌∙◌, Some, ap, option_map, rules, subst, arith}
use Rattle.std.specs.Io.KnownBytes.{Appends, IsAtEnd}
use Rattle.trace_lines.specs.declared.lines.LineEnd.TheVariants as line_end
use Rattle.trace_lines.specs.Lines.{ahead, TakesLine}
use Rattle.simulation.specs.Commands.{Answers}
use Rattle.simulation.proofs.Turns.{is_answered}
use Rattle.simulation.proofs.simulating.turn.Goals as goal

pub returns-clause-done : goal.returns-clause-done
returns-clause-done g c =
    let h = c.args.session.now in
    let next = c.answer.new.session in
    let now = ahead c.args.lines.now (g.S.Source.to_come c.args.source.now) in
    let after = ahead c.next.new.self (g.S.Source.to_come c.next.new.source) in
    let old = g.K.Sink.taken c.args.sink.now in
    let new = g.K.Sink.taken c.write.new.sink in
    let line = c.next.new.line.items in
    let told = c.in-Ok-Some-answer.told.items in
    let takes : TakesLine now after line = search rules in
    let given = c.in-Ok-Some-answer.ensures.done in
    let some = subst (λ o. Answers c.deref.result.now h next (option_map (λ bytes. bytes.items) o)) c.in-Ok-Some-answer.field-0-is given in
    let answers : Answers line h next (Some told) = subst (λ bytes. Answers bytes h next (Some told)) c.deref.ensures.value some in
    let written : Appends old new told = subst (Appends old new) c.deref-2.ensures.value (c.write.ensures.whole c.if-not-write.false) in
    let last : c.in-Ok-Some.end ≡ line_end.Input → IsAtEnd after = λ e. c.in-Ok-Some.ensures.last (c.in-Ok-Some.field-0-is ∙ ap Some e) in
    is_answered c.goes_on.result c.in-Ok-Some.end line told h next now after old new c.goes_on.ensures last takes answers written

pub returns-clause-read : goal.returns-clause-read
returns-clause-read g c = grind (arith, common_steps) steps 2000000

pub returns-clause-not_write : goal.returns-clause-not_write
returns-clause-not_write g c = grind (arith, common_steps) steps 2000000

pub returns-then-not-write-clause-not_write : goal.returns-then-not-write-clause-not_write
returns-then-not-write-clause-not_write g c = grind (arith, common_steps) steps 2000000

pub returns-then-not-write-clause-end : goal.returns-then-not-write-clause-end
returns-then-not-write-clause-end g c = grind (arith, common_steps) steps 2000000

pub returns-clause-end : goal.returns-clause-end
returns-clause-end g c = grind (arith, common_steps) steps 2000000

pub returns-then-not-write-clause-read : goal.returns-then-not-write-clause-read
returns-then-not-write-clause-read g c = grind (arith, common_steps) steps 2000000

pub returns-in-Ok-None-answer-clause-read : goal.returns-in-Ok-None-answer-clause-read
returns-in-Ok-None-answer-clause-read g c = grind (arith, common_steps) steps 2000000

pub returns-in-Ok-None-answer-clause-not_read : goal.returns-in-Ok-None-answer-clause-not_read
returns-in-Ok-None-answer-clause-not_read g c = grind (arith, common_steps) steps 2000000

pub returns-clause-write : goal.returns-clause-write
returns-clause-write g c = grind (arith, common_steps) steps 2000000

pub returns-then-not-write-clause-not_read : goal.returns-then-not-write-clause-not_read
returns-then-not-write-clause-not_read g c = grind (arith, common_steps) steps 2000000

pub returns-clause-not_read : goal.returns-clause-not_read
returns-clause-not_read g c = grind (arith, common_steps) steps 2000000
