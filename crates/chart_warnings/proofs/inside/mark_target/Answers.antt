use Rattle.std.proofs.Common.{◌≡◌, ◌<◌, ◌-◌, ◌+◌, arith, length, rules}
use Rattle.chart_warnings.proofs.Ways.{all_steps, one_step}
use Rattle.chart_warnings.proofs.inside.mark_target.Goals as goal

pub loop-step-preserved : goal.loop-step-preserved
loop-step-preserved c =
    let more : c.loop-step._step < length c.args.states.now = search rules in
    one_step c.args.way c.args.states.now (length c.args.states.now - (c.loop-step._step + 1)) (length c.args.states.now - c.loop-step._step)
    c.loop-step.place c.mark_step-place.result c.loop-step.marks.items c.mark_step-place.new.marks.items _ (omega (arith, more))
    c.mark_step-place.ensures.marks c.mark_step-place.ensures.leads c.loop-step.invariant

pub returns : goal.returns
returns c =
    let none : length c.args.states.now - c.loop-step._step ≡ 0 = search (rules, arith) in
    all_steps c.args.way c.args.states.now (length c.args.states.now - c.loop-step._step) c.loop-step.place c.loop-step.marks.items _
    none c.loop-step.invariant
