use Rattle.std.proofs.Common.{arith}
use Rattle.std.proofs.lemmas.Grind.{common_steps}
use Rattle.command_words.proofs.arguments.asked_of.Goals as goal

pub returns-in_err-request-clause-explains : goal.returns-in_err-request-clause-explains
returns-in_err-request-clause-explains c = grind (arith, common_steps) steps 2000000

pub returns-in_err-said-clause-explains : goal.returns-in_err-said-clause-explains
returns-in_err-said-clause-explains c = grind (arith, common_steps) steps 2000000

pub returns-in_err-request-clause-warns : goal.returns-in_err-request-clause-warns
returns-in_err-request-clause-warns c = grind (arith, common_steps) steps 2000000

pub returns-in_err-said-clause-warns : goal.returns-in_err-said-clause-warns
returns-in_err-said-clause-warns c = grind (arith, common_steps) steps 2000000

pub returns-in_err-verb-clause-request : goal.returns-in_err-verb-clause-request
returns-in_err-verb-clause-request c = grind (arith, common_steps) steps 2000000
