use Rattle.command_texts.proofs.Sourced.{none_drawn_in}
use Rattle.std.proofs.lemmas.Grind.{common_steps}
use Rattle.std.proofs.Common.{arith, rules}
use Rattle.command_texts.proofs.draw.drawing_in.Goals as goal

pub returns-clause-made : goal.returns-clause-made
returns-clause-made g c = grind (arith, common_steps) steps 2000000

pub returns-in_err-text-clause-lacks : goal.returns-in_err-text-clause-lacks
returns-in_err-text-clause-lacks g c = search (rules, none_drawn_in)
