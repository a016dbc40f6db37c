use Rattle.grammar.proofs.Sums.{sums_told}
use Rattle.grammar.proofs.sums_are_told.Goals as goal

pub returns : goal.returns
returns c = sums_told
