use Rattle.std.proofs.lemmas.Grind.{common_steps}
use Rattle.std.proofs.Common.{◌≡◌, false, rules, subst, arith}
use Rattle.trace_lines.specs.Lines.{ahead}
use Rattle.simulation.specs.Inside.Turns.{Ends, TurnsTo}
use Rattle.simulation.proofs.Turns.{has_ended, has_stopped, at_start, one_more}
use Rattle.simulation.proofs.simulating.go_on.Goals as goal

pub returns-in-Ok-false-clause-done : goal.returns-in-Ok-false-clause-done
returns-in-Ok-false-clause-done g c =
    let l = c.loop-turn in
    let start = ahead c.args.lines.now (g.S.Source.to_come c.args.source.now) in
    let now = ahead l.lines (g.S.Source.to_come l.source) in
    let after = ahead c.turn.new.lines (g.S.Source.to_come c.turn.new.source) in
    let old = g.K.Sink.taken c.args.sink.now in
    let new = g.K.Sink.taken l.sink in
    let newer = g.K.Sink.taken c.turn.new.sink in
    let stops : c.in-Ok-false.field-0 ≡ false = search rules in
    let ends : Ends l.session c.turn.new.session now after new newer =
    subst (λ more. TurnsTo more l.session c.turn.new.session now after new newer) stops c.in-Ok-false.ensures.done in
    has_ended c.args.session.now l.session c.turn.new.session start now after l.number old new newer l.invariant.led ends

pub returns-in-Err-clause-left : goal.returns-in-Err-clause-left
returns-in-Err-clause-left g c =
    let l = c.loop-turn in
    let start = ahead c.args.lines.now (g.S.Source.to_come c.args.source.now) in
    let now = ahead l.lines (g.S.Source.to_come l.source) in
    has_stopped c.args.session.now l.session start now l.number c.next_number-number.result (g.K.Sink.taken c.args.sink.now) (g.K.Sink.taken l.sink)
    (g.K.Sink.taken c.turn.new.sink) c.in-Err.fault c.next_number-number.ensures l.invariant.led c.in-Err.ensures.left

pub loop-turn-init : goal.loop-turn-init
loop-turn-init g c = search (rules, at_start)

pub loop-turn-preserved : goal.loop-turn-preserved
loop-turn-preserved g c = search (rules, one_more)

pub overflow_step-turn : goal.overflow_step-turn
overflow_step-turn g c = grind (arith, common_steps) steps 2000000

pub returns-in-Err-clause-read : goal.returns-in-Err-clause-read
returns-in-Err-clause-read g c = grind (arith, common_steps) steps 2000000

pub returns-in-Ok-false-clause-not_write : goal.returns-in-Ok-false-clause-not_write
returns-in-Ok-false-clause-not_write g c = grind (arith, common_steps) steps 2000000

pub returns-in-Err-clause-write : goal.returns-in-Err-clause-write
returns-in-Err-clause-write g c = grind (arith, common_steps) steps 2000000

pub returns-in-Err-clause-not_write : goal.returns-in-Err-clause-not_write
returns-in-Err-clause-not_write g c = grind (arith, common_steps) steps 2000000

pub returns-in-Ok-false-clause-not_read : goal.returns-in-Ok-false-clause-not_read
returns-in-Ok-false-clause-not_read g c = grind (arith, common_steps) steps 2000000

pub returns-in-Err-clause-not_read : goal.returns-in-Err-clause-not_read
returns-in-Err-clause-not_read g c = grind (arith, common_steps) steps 2000000

pub returns-in-Ok-false-clause-write : goal.returns-in-Ok-false-clause-write
returns-in-Ok-false-clause-write g c = grind (arith, common_steps) steps 2000000

pub returns-in-Ok-false-clause-read : goal.returns-in-Ok-false-clause-read
returns-in-Ok-false-clause-read g c = grind (arith, common_steps) steps 2000000
