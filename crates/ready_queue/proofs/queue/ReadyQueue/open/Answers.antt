use Rattle.std.proofs.Common.{arith}
use Rattle.sc_graph.specs.declared.place.Place.TheVariants as place
use Rattle.ready_queue.proofs.RuleKept.{begins}
use Rattle.ready_queue.proofs.queue.ReadyQueue.open.Goals as goal

pub ruled-requires-clause-cap : goal.ruled-requires-clause-cap
ruled-requires-clause-cap c =
    let some = (c.image.ensures.valid.size place.Image).0.some_thread in
    rw (c.threads-places.ensures, c.program.ensures, c.image.ensures.value) (omega (arith, some))

pub ruled-requires-clause-rule : goal.ruled-requires-clause-rule
ruled-requires-clause-rule c = begins
