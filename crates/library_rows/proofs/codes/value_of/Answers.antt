use Rattle.sc_values.proofs.Evaluating.{kinds_are, present_kinds}
use Rattle.library_rows.proofs.codes.value_of.Goals as goal

pub eval-requires : goal.eval-requires
eval-requires c =
    rw (c.present-operands.ensures, c.known-checked.ensures.loads)
    (present_kinds c.args.kinds.now _ c.args.variables.now c.known-checked.ensures.formed (kinds_are c.args.variables.now c.args.kinds.now c.requires))
