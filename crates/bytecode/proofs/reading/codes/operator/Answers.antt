use Rattle.std.proofs.Common.{Some, None}
use Rattle.bytecode.proofs.Operators.{operator_body}
use Rattle.bytecode.proofs.reading.codes.operator.Goals as goal

pub returns-in-Some : goal.returns-in-Some
returns-in-Some c = operator_body c.args.bytes.now c.args.number c.args.rest.now (Some c.in-Some.operator.now) c.requires c.in-Some.ensures

pub returns-in-None : goal.returns-in-None
returns-in-None c = operator_body c.args.bytes.now c.args.number c.args.rest.now None c.requires c.in-None.ensures
