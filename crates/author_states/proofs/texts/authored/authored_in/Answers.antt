use Rattle.std.proofs.lemmas.Grind.{elements}
use Rattle.std.proofs.Common.{arith}
use Rattle.author_states.proofs.texts.authored.authored_in.Goals as goal

pub returns-clause-authored : goal.returns-clause-authored
returns-clause-authored c = grind (arith, elements) steps 2000000
