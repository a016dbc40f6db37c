use Rattle.std.proofs.lemmas.Grind.{common_steps}
use Rattle.std.proofs.Common.{◌≡◌, rules, subst, arith}
use Rattle.trace_lines.specs.Output.{outputs_of, tick_line}
use Rattle.trace_player.specs.Trace.{Reacts}
use Rattle.ruled_runs.specs.Lines.{Gives}
use Rattle.ruled_runs.specs.Inside.Faults.{Says}
use Rattle.ruled_runs.proofs.Made.{makes_tick}
use Rattle.ruled_runs.proofs.traces.session.react.Goals as goal

pub returns-in-Ok-write_line-clause-makes : goal.returns-in-Ok-write_line-clause-makes
returns-in-Ok-write_line-clause-makes c =
    let inputs = c.in-Gives.inputs in
    let says : Gives c.args.rules c.args.program.now c.args.line.now inputs =
    subst (Says c.args.rules c.args.program.now c.args.line.now) c.in-Gives.is c.in-Ok.ensures in
    let reacts : Reacts c.args.room inputs c.args.place.control c.tick-control.result.0 c.tick-control.result.1 = search rules in
    let shown : c.write_line.new.line.items
    ≡ tick_line c.next_number-ticks.result c.tick-control.result.1 (outputs_of c.args.interface.now c.tick-control.result.0.variables) = search rules in
    makes_tick c.args.rules c.args.room c.args.program.now c.args.interface.now c.args.place _ c.args.line.now inputs c.tick-control.result.1
    c.write_line.new.line.items c.requires.program c.requires.interface c.next_number-lines.ensures c.next_number-ticks.ensures says reacts shown

pub write_line-requires : goal.write_line-requires
write_line-requires c = grind (arith, common_steps) steps 2000000
