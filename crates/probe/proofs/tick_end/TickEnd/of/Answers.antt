use Rattle.sc_graph.specs.declared.place.Place.TheVariants as place
use Rattle.probe.proofs.Few.{few_outputs}
use Rattle.probe.proofs.tick_end.TickEnd.of.Goals as goal

pub declared-end-requires : goal.declared-end-requires
declared-end-requires c =
    rw (c.variables-variables.ensures, c.program.ensures, c.image.ensures.value)
    (few_outputs c.args.verified.now.program (λ x a is. (c.image.ensures.valid.size (place.Variable x)).0 a is) _)
