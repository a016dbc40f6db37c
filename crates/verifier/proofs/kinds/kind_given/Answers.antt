use Rattle.verifier.proofs.CodeKinds.{checked_gives}
use Rattle.verifier.proofs.kinds.kind_given.Goals as goal

pub returns-in-Some : goal.returns-in-Some
returns-in-Some c = checked_gives c.args.program.now c.args.known.now c.args.code.now c.in-Some.checked c.kind.result c.requires c.in-Some.ensures
    c.kind.ensures
