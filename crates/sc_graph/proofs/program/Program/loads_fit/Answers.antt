use mathlib.Core.Bool.{true≢false}
use Rattle.std.proofs.lemmas.Grind.{common_steps}
use Rattle.std.proofs.Common.{◌∙◌, sym, arith}
use Rattle.sc_graph.proofs.Loads.{load_refused, load_passed}
use Rattle.sc_graph.proofs.program.Program.loads_fit.Goals as goal

pub returns-then-not-load_fits : goal.returns-then-not-load_fits
returns-then-not-load_fits c = (
  λ yes. absurd (true≢false (sym yes)),
  λ fits. absurd (load_refused c.args.self.now c.operations-operation-items.result.now c.loop-operation.operation-index _ c.loop-operation-test.true
      c.operation-item.is
      (λ yes. let e = c.load_fits.ensures.1 yes in true≢false (sym e ∙ c.if-not-load_fits.true))
      (c.loop-operation.invariant.0 fits)),
)

pub loop-operation-preserved : goal.loop-operation-preserved
loop-operation-preserved c =
    let step = load_passed c.args.self.now c.operations-operation-items.result.now c.loop-operation.operation-index _ c.loop-operation-test.true
    c.operation-item.is (c.load_fits.ensures.0 c.if-not-load_fits.false) in
    (λ fits. step.0 (c.loop-operation.invariant.0 fits), λ fits. c.loop-operation.invariant.1 (step.1 fits))

pub returns : goal.returns
returns c = grind (arith, common_steps) steps 2000000
