use Rattle.std.proofs.lemmas.Grind.{elements}
use Rattle.std.proofs.Common.{◌∙◌, ap, sym, ◌++◌, ◌∷◌, [], None, arith}
use Rattle.tick_core.proofs.StateKept.{none_more}
use Rattle.tick_core.proofs.state.first_rows.no_claims.Goals as goal

pub loop-thread-preserved : goal.loop-thread-preserved
loop-thread-preserved c =
    c.in_ok-push.ensures.items ∙ ap (λ before. before ++ None ∷ []) c.loop-thread.invariant
    ∙ sym (none_more _ _ c.loop-thread-test.true)

pub returns : goal.returns
returns c = grind (arith, elements) steps 2000000
