use Rattle.image_charts.proofs.Loading.{unread}
use Rattle.std.proofs.lemmas.Grind.{elements}
use Rattle.std.proofs.Common.{arith, rules}
use Rattle.image_charts.proofs.files.load_states.Goals as goal

pub returns-clause-loaded : goal.returns-clause-loaded
returns-clause-loaded g c = grind (arith, elements) steps 2000000

pub returns-in_err-written-clause-lacks : goal.returns-in_err-written-clause-lacks
returns-in_err-written-clause-lacks g c = search (rules, unread)
