use mathlib.Core.Bool.{true≢false}
use Rattle.std.proofs.Common.{◌≡◌, ◌-◌, length, true, arith, sym, ◌∙◌}
use Rattle.std.proofs.lemmas.List.Elements.{Contains-get_or}
use Rattle.program_edges.specs.Inside.Candidates.{by_one, by_two}
use Rattle.program_edges.proofs.candidates.is_covered.Goals as goal

pub returns-then-not-nodes_clash : goal.returns-then-not-nodes_clash
returns-then-not-nodes_clash c = λ t.
    let kept = c.args.kept.now in
    by_one _ (Contains-get_or kept (length kept - 1) 0 (omega arith)) (c.same_thread.ensures c.if-not-same_thread.false)
    (λ clash. let e : c.nodes_clash.result ≡ true = c.nodes_clash.ensures.1 clash in true≢false (sym e ∙ c.if-not-nodes_clash.true))

pub returns-then-same_thread : goal.returns-then-same_thread
returns-then-same_thread c = λ t.
    let kept = c.args.kept.now in
    by_two _ _ (Contains-get_or kept (length kept - 2) 0 (omega arith)) (Contains-get_or kept (length kept - 1) 0 (omega arith))
    (c.same_thread-2.ensures c.if-same_thread.true) (c.same_thread.ensures c.if-not-same_thread.false) (c.nodes_clash-then-same_thread.ensures.0 t)
