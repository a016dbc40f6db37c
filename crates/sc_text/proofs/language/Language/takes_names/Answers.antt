use Rattle.std.proofs.Common.{arith}
use Rattle.std.proofs.lemmas.Grind.{elements}
use Rattle.sc_text.proofs.language.Language.takes_names.Goals as goal

pub returns-then-not-takes_name : goal.returns-then-not-takes_name
returns-then-not-takes_name c = grind (arith, elements) steps 2000000

pub loop-variable-preserved : goal.loop-variable-preserved
loop-variable-preserved c = grind (arith, elements) steps 2000000

pub returns : goal.returns
returns c = grind (arith, elements) steps 2000000
