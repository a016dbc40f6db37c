use Rattle.std.proofs.Common.{arith}
use Rattle.std.proofs.lemmas.Grind.{elements}
use Rattle.trace_lines.proofs.line_reader.LineReader.read.Goals as goal

pub returns-clause-ok : goal.returns-clause-ok
returns-clause-ok c = grind (arith, elements) steps 2000000

pub returns-clause-not_json : goal.returns-clause-not_json
returns-clause-not_json c = grind (arith, elements) steps 2000000

pub returns-clause-input : goal.returns-clause-input
returns-clause-input c = grind (arith, elements) steps 2000000

pub returns-clause-same : goal.returns-clause-same
returns-clause-same c = grind (arith, elements) steps 2000000
