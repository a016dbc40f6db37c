use Rattle.command_texts.proofs.Placed.{no_source}
use Rattle.std.proofs.lemmas.Grind.{common_steps}
use Rattle.std.proofs.Common.{arith, rules}
use Rattle.command_texts.proofs.list_places.places_in.Goals as goal

pub returns-clause-made : goal.returns-clause-made
returns-clause-made g c = grind (arith, common_steps) steps 2000000

pub returns-in_err-written-clause-lacks : goal.returns-in_err-written-clause-lacks
returns-in_err-written-clause-lacks g c = search (rules, no_source)
