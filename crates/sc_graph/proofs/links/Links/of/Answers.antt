use Rattle.std.proofs.Common.{ℕ, ◌≡◌, ◌≤◌, ◌+◌, length, arith, sym, ◌∙◌, subst}
use Rattle.std.proofs.lemmas.Option.{none-some}
use Rattle.sc_graph.specs.declared.links.Links.{Links}
use Rattle.sc_graph.specs.Inside.Linking.{IsBlank, after_step}
use Rattle.sc_graph.proofs.Linking.{TellsBelow, tells_none, tells_more, tells_all, unlinked}
use Rattle.sc_graph.proofs.links.Links.of.Goals as goal
use Rattle.sc_graph.proofs.links.Links.of.Goals.{in-Some, in-None}

pub loop-node-init : goal.loop-node-init
loop-node-init c =
    let p = c.args.program.now in
    tells_none p c.in_ok-links.links
    (subst (λ (n : ℕ). IsBlank (length p.threads) n c.in_ok-links.links) c.node_count.ensures.count
    (subst (λ (t : ℕ). IsBlank t c.node_count.result c.in_ok-links.links) c.thread_count.ensures.count c.in_ok-links.ensures))

pub loop-node-preserved : goal.loop-node-preserved
loop-node-preserved c =
    let p = c.args.program.now in
    let n = c.loop-node.node in
    elim c.match-step.branch [
      | in-Some w ↦
          (let e : c.match-step.links ≡ after_step w.in-Some.step.now n c.loop-node.links = w.links-is ∙ w.note.ensures in
          subst (λ (l : Links). TellsBelow p l (n + 1)) (sym e)
          (tells_more p c.loop-node.links n w.in-Some.step.now (sym w.in-Some.ensures) c.loop-node.invariant))
      | in-None w ↦
          (let none = w.in-None.ensures in
          subst (λ (l : Links). TellsBelow p l (n + 1)) (sym w.links-is)
          (unlinked p c.loop-node.links n (λ ks j e. none-some _ (none ∙ e)) (λ d e. none-some _ (none ∙ e)) c.loop-node.invariant))
    ]

pub returns : goal.returns
returns c =
    let all : length c.args.program.now.nodes ≤ c.loop-node.node = omega arith in
    tells_all c.args.program.now c.loop-node.links c.loop-node.node all c.loop-node.invariant
