use Rattle.std.proofs.lemmas.Grind.{common_steps}
use Rattle.std.proofs.Common.{Err, refl, ap, inr, arith}
use Rattle.state_traces.proofs.session.react.Goals as goal

pub returns-in-Err-NotJson-clause-fault : goal.returns-in-Err-NotJson-clause-fault
returns-in-Err-NotJson-clause-fault g c = (refl, inr (c.in-Err-NotJson.ensures.not_json (ap Err c.in-Err-NotJson.field-0-is)))

pub write_line-requires : goal.write_line-requires
write_line-requires g c = grind (arith, common_steps) steps 2000000
