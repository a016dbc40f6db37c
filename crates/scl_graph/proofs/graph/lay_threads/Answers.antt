use Rattle.std.proofs.Common.{◌≡◌, ℕ, suc, ◌+◌, None, List, [], ap, subst, arith}
use Rattle.sc_graph.specs.declared.program.Node.{Node}
use Rattle.sc_graph.specs.declared.program.Thread.{Thread}
use Rattle.scl.specs.declared.statement.Statement.{Statement}
use Rattle.scl_graph.specs.declared.laid_threads.Laid.{Laid}
use Rattle.scl_graph.specs.declared.numbers.NodeNumbers.{NodeNumbers}
use Rattle.scl_graph.specs.declared.way.Way.{Way}
use Rattle.scl_graph.specs.Counting.{counts_of_all}
use Rattle.scl_graph.specs.Inside.Forking.{AreForkedLaid, IsThreadLaid}
use Rattle.scl_graph.specs.Inside.Resolving.{AreThreadsLaid}
use Rattle.scl_graph.proofs.Laid.{ok_then}
use Rattle.scl_graph.proofs.Resolved.{program_laid}
use Rattle.scl_graph.proofs.graph.lay_threads.Goals as goal

pub returns : goal.returns
returns g c =
    let f : Way → ℕ = g.T.Targets.target c.args.targets.now in
    let b : List Statement = c.args.body.now in
    let nodes : c.known_counts.result.nodes ≡ (counts_of_all b).nodes = ap (λ k. k.nodes) c.known_counts.ensures.counts in
    let base : c.known_counts.result.nodes + 1 ≡ suc (counts_of_all b).nodes = omega (arith, nodes) in
    let At : ℕ → NodeNumbers = λ n. record { node = 0; thread = 1; base = n } in
    let at : NodeNumbers = At (c.known_counts.result.nodes + 1) in
    let ts : List Thread = c.lay_thread.new.laid.threads in
    let us : List Thread = c.lay_forked.new.laid.threads in
    let ns : List Node = c.lay_thread.new.laid.nodes in
    let ms : List Node = c.lay_forked.new.laid.nodes in
    let From : Laid → Type 0 = λ l. IsThreadLaid f None 0 b at l.threads ts l.nodes ns in
    let own : IsThreadLaid f None 0 b at [] ts [] ns = subst From c.requires.none c.in_ok-lay_thread.ensures in
    ok_then c.lay_forked.result (λ v. AreForkedLaid f 0 b at ts us ns ms) (λ v. AreThreadsLaid f b us ms)
    (λ v lower. record { made = λ variables. program_laid f variables b at ts us ns ms (ap At base) own lower })
    c.lay_forked.ensures
