use Rattle.std.proofs.lemmas.Grind.{common_steps}
use Rattle.std.proofs.Common.{Err, refl, ap, inr, arith}
use Rattle.trace_player.proofs.session.Session.react.Goals as goal

pub returns-in-Err-NotJson-clause-fault : goal.returns-in-Err-NotJson-clause-fault
returns-in-Err-NotJson-clause-fault g c = (refl, inr (c.in-Err-NotJson.ensures.not_json (ap Err c.in-Err-NotJson.field-0-is)))

pub returns-clause-shows : goal.returns-clause-shows
returns-clause-shows g c = grind (arith, common_steps) steps 2000000

pub returns-in-Err-Input-tick-clause-fault : goal.returns-in-Err-Input-tick-clause-fault
returns-in-Err-Input-tick-clause-fault g c = grind (arith, common_steps) steps 2000000

pub returns-in-Err-Input-clause-fault : goal.returns-in-Err-Input-clause-fault
returns-in-Err-Input-clause-fault g c = grind (arith, common_steps) steps 2000000
