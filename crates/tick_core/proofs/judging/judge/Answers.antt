use Rattle.std.proofs.lemmas.Grind.{elements, common_steps}
use Rattle.std.proofs.Common.{◌≡◌, ◌∙◌, ap, subst, sym, rules, arith}
use Rattle.sc_graph.specs.Tick.{start}
use Rattle.tick_core.specs.State.{BeginsTick}
use Rattle.sc_graph.specs.declared.control.Control.{Control}
use Rattle.tick_core.specs.declared.judging.Judged.TheVariants as judged
use Rattle.tick_core.specs.Judging.{IsNotRun}
use Rattle.tick_core.specs.Inside.Judging.{ReplaysTo, RunsBy}
use Rattle.tick_core.specs.Space.Given.{HasOwnNames}
use Rattle.tick_core.proofs.InputValues.{own_names}
use Rattle.tick_core.proofs.OneJudgement.{one_judgement}
use Rattle.tick_core.proofs.Replaying.{reached_by}
use Rattle.tick_core.proofs.JudgedBySteps.{judged_run}
use Rattle.tick_core.proofs.judging.judge.Goals as goal

pub started-requires-clause-names : goal.started-requires-clause-names
started-requires-clause-names c =
    subst (λ p. HasOwnNames p.variables) (sym (c.program-program.ensures ∙ ap (λ i. i.program) c.image.ensures.value))
    (own_names c.args.verified.now.program c.args.verified.now.tables c.image.ensures.valid)

pub judge_steps-requires-clause-configuration : goal.judge_steps-requires-clause-configuration
judge_steps-requires-clause-configuration c =
    let p = c.args.verified.now.program in
    let begins : BeginsTick p c.in_ok-reached.reached = search rules in
    let by : RunsBy p c.in_ok-reached.reached c.args.run.now c.replay.new.control c.in-Whole.steps.items =
    subst (ReplaysTo p c.in_ok-reached.reached c.args.run.now c.replay.new.control) c.in-Whole.is c.in_ok-at.ensures in
    (reached_by p c.args.verified.now.tables c.in_ok-reached.reached c.image.ensures.valid begins c.args.run.now c.replay.new.control c.in-Whole.steps.items
    by).configuration

pub returns-in-Stopped-clause-judged : goal.returns-in-Stopped-clause-judged
returns-in-Stopped-clause-judged c =
    let p = c.args.verified.now.program in
    let begun : c.in_ok-reached.reached ≡ start p c.args.inputs.now c.args.control.now = search rules in
    let stopped : IsNotRun p c.in_ok-reached.reached c.args.run.now c.in-Stopped.at =
    subst (ReplaysTo p c.in_ok-reached.reached c.args.run.now c.replay.new.control) c.in-Stopped.is c.in_ok-at.ensures in
    one_judgement p (start p c.args.inputs.now c.args.control.now) c.args.run.now (judged.NotRun c.in-Stopped.at)
    (subst (λ (b : Control). IsNotRun p b c.args.run.now c.in-Stopped.at) begun stopped)

pub returns-in-Whole-clause-judged : goal.returns-in-Whole-clause-judged
returns-in-Whole-clause-judged c =
    let p = c.args.verified.now.program in
    let begun : c.in_ok-reached.reached ≡ start p c.args.inputs.now c.args.control.now = search rules in
    let begins : BeginsTick p c.in_ok-reached.reached = search rules in
    let by : RunsBy p c.in_ok-reached.reached c.args.run.now c.replay.new.control c.in-Whole.steps.items =
    subst (ReplaysTo p c.in_ok-reached.reached c.args.run.now c.replay.new.control) c.in-Whole.is c.in_ok-at.ensures in
    judged_run p c.args.verified.now.tables c.in_ok-reached.reached c.image.ensures.valid begins c.args.run.now c.replay.new.control
    c.in-Whole.steps.items c.deref.result.now by c.deref.ensures.value c.judge_steps.result c.judge_steps.ensures
    (start p c.args.inputs.now c.args.control.now) begun

pub returns-then-not-are_accepted-clause-judged : goal.returns-then-not-are_accepted-clause-judged
returns-then-not-are_accepted-clause-judged c = grind (arith, elements) steps 2000000

pub returns-then-not-are_accepted-clause-accepted : goal.returns-then-not-are_accepted-clause-accepted
returns-then-not-are_accepted-clause-accepted c = grind (arith, elements) steps 2000000

pub returns-then-not-are_accepted-clause-refused : goal.returns-then-not-are_accepted-clause-refused
returns-then-not-are_accepted-clause-refused c = grind (arith, elements) steps 2000000

pub returns-in-Stopped-clause-accepted : goal.returns-in-Stopped-clause-accepted
returns-in-Stopped-clause-accepted c = grind (arith, elements) steps 2000000

pub returns-in-Stopped-clause-refused : goal.returns-in-Stopped-clause-refused
returns-in-Stopped-clause-refused c = grind (arith, elements) steps 2000000

pub returns-in-Whole-clause-accepted : goal.returns-in-Whole-clause-accepted
returns-in-Whole-clause-accepted c = grind (arith, elements) steps 2000000

pub returns-in-Whole-clause-refused : goal.returns-in-Whole-clause-refused
returns-in-Whole-clause-refused c = grind (arith, elements) steps 2000000

pub started-requires-clause-values : goal.started-requires-clause-values
started-requires-clause-values c = grind (arith, common_steps) steps 2000000

pub replay-requires-clause-begins : goal.replay-requires-clause-begins
replay-requires-clause-begins c = grind (arith, common_steps) steps 2000000

pub started-requires-clause-accepted : goal.started-requires-clause-accepted
started-requires-clause-accepted c = grind (arith, common_steps) steps 2000000
