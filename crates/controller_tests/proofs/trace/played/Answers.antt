use Rattle.std.proofs.Common.{rules}
use Rattle.controller_tests.proofs.trace.played.Goals as goal

pub returns-in-Err-clause-fault : goal.returns-in-Err-clause-fault
returns-in-Err-clause-fault g c = search rules
