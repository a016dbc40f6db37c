use Rattle.std.proofs.lemmas.Grind.{elements}
use Rattle.std.proofs.Common.{arith}
use Rattle.scl_printer.proofs.tree_texts.text_of.Goals as goal

pub returns : goal.returns
returns c = grind (arith, elements) steps 2000000
