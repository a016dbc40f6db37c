use Rattle.std.proofs.lemmas.Grind.{common_steps}
use Rattle.std.proofs.Common.{◌≡◌, ◌⊎◌, ◌∙◌, inl, inr, sym, length, arith}
use Rattle.probe.proofs.Few.{ended}
use Rattle.probe.proofs.tick_end.TickEnd.declared.Goals as goal

pub returns : goal.returns
returns c =
    let left = c.loop-variable.variable-iterator in
    let done : (length left.a.rest.now ≡ 0) ⊎ (length left.b.rest.now ≡ 0) =
    elim c.in-None.ensures.steps [ inl w ↦ inl w.1.0 | inr w ↦ inr w.1.0 ] in
    sym (ended c.loop-variable.end left.a.rest.now left.b.rest.now done) ∙ c.loop-variable.invariant

pub push-requires : goal.push-requires
push-requires c = grind (arith, common_steps) steps 2000000

pub loop-variable-preserved-then-eq : goal.loop-variable-preserved-then-eq
loop-variable-preserved-then-eq c = grind (arith, common_steps) steps 2000000
