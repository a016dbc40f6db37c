use Rattle.compiler.proofs.Texts.{graph_refused}
use Rattle.std.proofs.Common.{rules}
use Rattle.compiler.proofs.sources.compiled.image_of.Goals as goal

pub returns-in-Err-clause-refused : goal.returns-in-Err-clause-refused
returns-in-Err-clause-refused c = search (rules, graph_refused)

pub returns-in-Err-into_image-clause-refused : goal.returns-in-Err-into_image-clause-refused
returns-in-Err-into_image-clause-refused c = search (rules, graph_refused)
