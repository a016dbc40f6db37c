use Rattle.sc_graph.proofs.Places.{fits_everywhere}
use Rattle.sc_graph.proofs.program.Program.size_fault.Goals as goal

pub returns-in-None : goal.returns-in-None
returns-in-None c =
    fits_everywhere c.args.self.now (c.counts_fit.ensures.0 c.if-not-counts_fit.false) c.in_default.ensures c.in_default-unfit_thread.ensures c.in-None.ensures
