use Rattle.compiler.proofs.Texts.{is_formed}
use Rattle.compiler.proofs.from_scl.graph_of_scl.Goals as goal

pub unreachable-requires : goal.unreachable-requires
unreachable-requires c =
    is_formed c.args.scl.now c.in_ok-program.program c.formed_with.result c.in_ok-program.ensures c.formed_with.ensures.1 c.if-not-formed_with.true
