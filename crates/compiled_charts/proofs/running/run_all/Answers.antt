use Rattle.std.proofs.lemmas.Grind.{common_steps}
use Rattle.std.proofs.Common.{◌≡◌, ◌∙◌, ◌+◌, ◌++◌, ◌∷◌, [], Err, ap, sym, subst, arith}
use Rattle.compiled_charts.specs.Inside.Ran.{RanTo}
use Rattle.compiled_charts.proofs.Row.{on_at, refused_at}
use Rattle.compiled_charts.proofs.running.run_all.Goals as goal

pub returns-in-Err-Input-clause-refused : goal.returns-in-Err-Input-clause-refused
returns-in-Err-Input-clause-refused g c =
    refused_at c.args.verified.now c.args.ticks.now c.loop-at.at c.loop-at.present c.loop-at.controls c.index-ticks-at.result c.loop-at.invariant
    c.loop-at-test.true c.index-ticks-at.is (c.in-Err-Input.ensures.refused.0 (ap Err c.in-Err-Input.field-0-is))

pub loop-at-preserved : goal.loop-at-preserved
loop-at-preserved g c =
    let pushed : c.push.new.self ≡ c.loop-at.controls ++ c.in-Ok.ran.0 ∷ [] =
    c.in_ok-push.ensures.ok ∙ ap (λ d. c.loop-at.controls ++ d ∷ []) c.in_ok-copied.ensures in
    subst (RanTo c.args.verified.now c.args.ticks.now (c.loop-at.at + 1) c.in-Ok.ran.0) (sym pushed)
    (on_at c.args.verified.now c.args.ticks.now c.loop-at.at c.loop-at.present c.in-Ok.ran.0 c.loop-at.controls c.index-ticks-at.result c.in-Ok.ran.1
    c.loop-at.invariant c.loop-at-test.true c.index-ticks-at.is c.in-Ok.ensures.tick)

pub loop-at-init : goal.loop-at-init
loop-at-init g c = grind (arith, common_steps) steps 2000000
