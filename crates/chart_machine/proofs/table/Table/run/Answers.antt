use Rattle.std.proofs.Common.{◌≡◌, ◌++◌, ◌∷◌, [], Some, None, length, inl, inr, arith, ap, subst, sym, ◌∙◌}
use Rattle.sc_values.specs.Runs.{replay}
use Rattle.chart_machine.specs.InOrder.{StepsInOrder, Stops}
use Rattle.chart_machine.specs.Machine.{machine}
use Rattle.chart_machine.specs.Steps.{step}
use Rattle.chart_machine.specs.Turns.{first_enabled}
use Rattle.chart_machine.proofs.Replaying.{replay_more, steps_more, one_longer, told}
use Rattle.chart_machine.proofs.table.Table.run.Goals as goal

pub loop-preserved : goal.loop-preserved
loop-preserved c =
    let items : c.push.new.self.items ≡ c.loop.run.items ++ c.in-Some.region ∷ [] = c.in_ok-push.ensures.items in
    let told : c.in_ok-after.field-0 ≡ step c.args.self.now c.in-Some.region c.loop.c = c.in_ok-after.ensures in
    let there : c.in_ok-after.field-0 ≡ Some c.in-Some-2.after = c.in-Some-2.is in
    let found : c.in_ok-region.field-0 ≡ first_enabled c.args.self.now c.loop.c c.args.order.now = c.in_ok-region.ensures in
    let first : first_enabled c.args.self.now c.loop.c c.args.order.now ≡ Some c.in-Some.region = sym found ∙ c.in-Some.is in
    record {
      replays =
          ap (λ xs. replay (machine c.args.self.now) xs c.args.start.now) items ∙
          replay_more (machine c.args.self.now) c.loop.run.items c.in-Some.region c.args.start.now c.loop.c c.in-Some-2.after c.loop.invariant.replays (sym
          told ∙ there);
      steps = subst (λ xs. StepsInOrder c.args.self.now c.args.order.now xs c.args.start.now c.in-Some-2.after) (sym items)
          (steps_more c.args.self.now c.args.order.now c.loop.run.items c.in-Some.region c.args.start.now c.loop.c c.in-Some-2.after c.loop.invariant.steps
          first (sym told ∙ there));
      long = ap length items ∙ one_longer c.loop.run.items c.in-Some.region c.loop.counter c.loop.invariant.long;
    }

pub returns-in_default-clause-run : goal.returns-in_default-clause-run
returns-in_default-clause-run c =
    told (λ xs e. replay (machine c.args.self.now) xs c.args.start.now ≡ Some e)
    c.loop.run.items c.loop.c c.ran.result c.ran.ensures.run c.ran.ensures.end c.loop.invariant.replays

pub returns-in_default-clause-order : goal.returns-in_default-clause-order
returns-in_default-clause-order c =
    told (λ xs e. StepsInOrder c.args.self.now c.args.order.now xs c.args.start.now e)
    c.loop.run.items c.loop.c c.ran.result c.ran.ensures.run c.ran.ensures.end c.loop.invariant.steps

pub returns-in_default-clause-stops : goal.returns-in_default-clause-stops
returns-in_default-clause-stops c =
    let found : c.in_ok-region.field-0 ≡ first_enabled c.args.self.now c.loop.c c.args.order.now = c.in_ok-region.ensures in
    let stops : Stops c.args.self.now c.args.order.now c.args.budget c.loop.run.items c.loop.c =
    inr (inl (sym found ∙ c.in_default.is)) in
    told (λ xs e. Stops c.args.self.now c.args.order.now c.args.budget xs e) c.loop.run.items c.loop.c c.ran.result c.ran.ensures.run c.ran.ensures.end stops

pub returns-in_default-2-clause-run : goal.returns-in_default-2-clause-run
returns-in_default-2-clause-run c =
    told (λ xs e. replay (machine c.args.self.now) xs c.args.start.now ≡ Some e)
    c.loop.run.items c.loop.c c.ran-in_default-2.result c.ran-in_default-2.ensures.run c.ran-in_default-2.ensures.end c.loop.invariant.replays

pub returns-in_default-2-clause-order : goal.returns-in_default-2-clause-order
returns-in_default-2-clause-order c =
    told (λ xs e. StepsInOrder c.args.self.now c.args.order.now xs c.args.start.now e)
    c.loop.run.items c.loop.c c.ran-in_default-2.result c.ran-in_default-2.ensures.run c.ran-in_default-2.ensures.end c.loop.invariant.steps

pub returns-in_default-2-clause-stops : goal.returns-in_default-2-clause-stops
returns-in_default-2-clause-stops c =
    let found : c.in_ok-region.field-0 ≡ first_enabled c.args.self.now c.loop.c c.args.order.now = c.in_ok-region.ensures in
    let first : first_enabled c.args.self.now c.loop.c c.args.order.now ≡ Some c.in-Some.region = sym found ∙ c.in-Some.is in
    let led : c.in_ok-after.field-0 ≡ step c.args.self.now c.in-Some.region c.loop.c = c.in_ok-after.ensures in
    let none : step c.args.self.now c.in-Some.region c.loop.c ≡ None = sym led ∙ c.in_default-2.is in
    let stops : Stops c.args.self.now c.args.order.now c.args.budget c.loop.run.items c.loop.c =
    inr (inr (c.in-Some.region, first, none)) in
    told (λ xs e. Stops c.args.self.now c.args.order.now c.args.budget xs e)
    c.loop.run.items c.loop.c c.ran-in_default-2.result c.ran-in_default-2.ensures.run c.ran-in_default-2.ensures.end stops

pub returns-clause-run : goal.returns-clause-run
returns-clause-run c =
    told (λ xs e. replay (machine c.args.self.now) xs c.args.start.now ≡ Some e)
    c.loop.run.items c.loop.c c.ran-2.result c.ran-2.ensures.run c.ran-2.ensures.end c.loop.invariant.replays

pub returns-clause-order : goal.returns-clause-order
returns-clause-order c =
    told (λ xs e. StepsInOrder c.args.self.now c.args.order.now xs c.args.start.now e)
    c.loop.run.items c.loop.c c.ran-2.result c.ran-2.ensures.run c.ran-2.ensures.end c.loop.invariant.steps

pub returns-clause-stops : goal.returns-clause-stops
returns-clause-stops c =
    let spent : length c.loop.run.items ≡ c.args.budget = omega arith in
    let stops : Stops c.args.self.now c.args.order.now c.args.budget c.loop.run.items c.loop.c = inl spent in
    told (λ xs e. Stops c.args.self.now c.args.order.now c.args.budget xs e)
    c.loop.run.items c.loop.c c.ran-2.result c.ran-2.ensures.run c.ran-2.ensures.end stops
