use Rattle.bytecode.proofs.Beginnings.{cut_is_short}
use Rattle.bytecode.proofs.laws.cut_spelling_is_short.Goals as goal

pub returns : goal.returns
returns c = cut_is_short
