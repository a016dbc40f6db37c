use Rattle.std.proofs.Common.{◌≡◌, ℕ, ◌+◌, List, [], ◌∷◌, ◌++◌, ap, subst, ◌∙◌}
use Rattle.sc_graph.specs.declared.program.Node.{Node}
use Rattle.sc_graph.specs.declared.program.Thread.{Thread}
use Rattle.sc_graph.specs.declared.program.Step.TheVariants as step
use Rattle.scl.specs.declared.statement.Statement.{Statement}
use Rattle.scl_graph.specs.declared.numbers.NodeCounts.{NodeCounts}
use Rattle.scl_graph.specs.declared.numbers.NodeNumbers.{NodeNumbers}
use Rattle.scl_graph.specs.declared.way.Way.{Way}
use Rattle.scl_graph.specs.declared.way.Way.TheVariants as leads
use Rattle.scl_graph.specs.Graph.{node}
use Rattle.scl_graph.specs.Inside.Forking.{IsThreadLaid}
use Rattle.scl_graph.specs.Inside.Laying.{IsLaid, way_in}
use Rattle.scl_graph.proofs.Branching.{thread_laid}
use Rattle.scl_graph.proofs.Laid.{ok_then}
use Rattle.scl_graph.proofs.forking.lay_thread.Goals as goal

pub returns : goal.returns
returns g c =
    let target : Way → ℕ = g.T.Targets.target c.args.targets.now in
    let body : List Statement = c.args.body.now in
    let at : NodeNumbers = c.args.at in
    let olds : List Thread = c.args.laid.now.threads in
    let old : List Node = c.args.laid.now.nodes in
    let middle : List Node = c.lay.new.nodes in
    let Entered : ℕ → List Thread = λ n. olds ++ record { parent = c.args.parent; entry = n } ∷ [] in
    let Behind : NodeCounts → Way = λ k. leads.At (at.node + k.nodes) in
    let Laid : NodeCounts → Type 0 = λ k. IsLaid target c.args.thread body at (Behind k) old middle in
    ok_then c.lay_end.result (λ v. c.lay_end.new.nodes ≡ middle ++ node c.args.thread step.Exit ∷ [])
    (λ v. IsThreadLaid target c.args.parent c.args.thread body at olds c.push.new.self old c.lay_end.new.nodes)
    (λ v ended. thread_laid target c.args.parent c.args.thread body at olds c.push.new.self old middle c.lay_end.new.nodes
    (c.in_ok-push.ensures.ok
    ∙ ap Entered (c.target-entry.ensures ∙ ap target (c.way_of.ensures ∙ ap (λ k. way_in body at.node (Behind k)) c.known_counts.ensures.counts)))
    (subst Laid c.known_counts.ensures.counts c.in_ok-lay.ensures)
    ended)
    c.lay_end.ensures
