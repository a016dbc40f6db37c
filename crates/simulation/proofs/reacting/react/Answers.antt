use Rattle.std.proofs.Common.{arith}
use Rattle.std.proofs.lemmas.Grind.{elements}
use Rattle.simulation.proofs.reacting.react.Goals as goal

pub returns-then-line-gt-LINE_LIMIT-clause-leads : goal.returns-then-line-gt-LINE_LIMIT-clause-leads
returns-then-line-gt-LINE_LIMIT-clause-leads c = grind (arith, elements) steps 2000000

pub returns-then-line-gt-LINE_LIMIT-clause-not_json : goal.returns-then-line-gt-LINE_LIMIT-clause-not_json
returns-then-line-gt-LINE_LIMIT-clause-not_json c = grind (arith, elements) steps 2000000

pub returns-then-line-gt-LINE_LIMIT-clause-input : goal.returns-then-line-gt-LINE_LIMIT-clause-input
returns-then-line-gt-LINE_LIMIT-clause-input c = grind (arith, elements) steps 2000000

pub returns-in-Ok-clause-leads : goal.returns-in-Ok-clause-leads
returns-in-Ok-clause-leads c = grind (arith, elements) steps 2000000

pub returns-in-Ok-clause-not_json : goal.returns-in-Ok-clause-not_json
returns-in-Ok-clause-not_json c = grind (arith, elements) steps 2000000

pub returns-in-Ok-clause-input : goal.returns-in-Ok-clause-input
returns-in-Ok-clause-input c = grind (arith, elements) steps 2000000

pub returns-in-Err-Memory-clause-leads : goal.returns-in-Err-Memory-clause-leads
returns-in-Err-Memory-clause-leads c = grind (arith, elements) steps 2000000

pub returns-in-Err-Memory-clause-not_json : goal.returns-in-Err-Memory-clause-not_json
returns-in-Err-Memory-clause-not_json c = grind (arith, elements) steps 2000000

pub returns-in-Err-Memory-clause-input : goal.returns-in-Err-Memory-clause-input
returns-in-Err-Memory-clause-input c = grind (arith, elements) steps 2000000

pub returns-in-Err-Input-clause-leads : goal.returns-in-Err-Input-clause-leads
returns-in-Err-Input-clause-leads c = grind (arith, elements) steps 2000000

pub returns-in-Err-Input-clause-not_json : goal.returns-in-Err-Input-clause-not_json
returns-in-Err-Input-clause-not_json c = grind (arith, elements) steps 2000000

pub returns-in-Err-Input-clause-input : goal.returns-in-Err-Input-clause-input
returns-in-Err-Input-clause-input c = grind (arith, elements) steps 2000000
