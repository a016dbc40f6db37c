use Rattle.std.proofs.Common.{below_more, arith, ◌<◌, length}
use Rattle.std.proofs.lemmas.Option.{slice_get_within}
use Rattle.sc_graph.proofs.program.Program.misplaced_thread.Goals as goal

pub loop-thread-preserved : goal.loop-thread-preserved
loop-thread-preserved c = below_more _ _ c.loop-thread.invariant (c.thread_stands.ensures.0 c.if-not-thread_stands.false)

pub returns : goal.returns
returns c = λ x a there.
    let within : x < length c.args.self.now.threads = slice_get_within _ x a there in
    c.loop-thread.invariant x (omega arith) a there
