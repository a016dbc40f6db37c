use Rattle.std.proofs.lemmas.Grind.{common_steps}
use Rattle.std.proofs.Common.{arith}
use Rattle.extended_reader.proofs.modules.arguments.fitting.Goals as goal

pub returns-in-empty : goal.returns-in-empty
returns-in-empty c = grind (arith, common_steps) steps 2000000

pub loop-parameter-preserved : goal.loop-parameter-preserved
loop-parameter-preserved c = grind (arith, common_steps) steps 2000000

pub returns : goal.returns
returns c = grind (arith, common_steps) steps 2000000

pub returns-in_err-misfit_at-in-len1-up : goal.returns-in_err-misfit_at-in-len1-up
returns-in_err-misfit_at-in-len1-up c = grind (arith, common_steps) steps 2000000
