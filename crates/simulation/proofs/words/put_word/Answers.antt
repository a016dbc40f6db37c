use Rattle.simulation.proofs.Split.{one_word}
use Rattle.std.proofs.Common.{rules}
use Rattle.simulation.proofs.words.put_word.Goals as goal

pub returns : goal.returns
returns c = search (rules, one_word)
