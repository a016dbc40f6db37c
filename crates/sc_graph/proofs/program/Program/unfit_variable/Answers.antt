use Rattle.std.proofs.Common.{below_more, arith, ◌<◌, length}
use Rattle.std.proofs.lemmas.Option.{slice_get_within}
use Rattle.sc_graph.proofs.program.Program.unfit_variable.Goals as goal

pub loop-variable-preserved : goal.loop-variable-preserved
loop-variable-preserved c = below_more _ _ c.loop-variable.invariant (c.variable_fits.ensures.0 c.if-not-variable_fits.false)

pub returns : goal.returns
returns c = λ x a there.
    let within : x < length c.args.self.now.variables = slice_get_within _ x a there in
    c.loop-variable.invariant x (omega arith) a there
