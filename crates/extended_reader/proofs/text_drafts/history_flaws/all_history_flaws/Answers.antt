use Rattle.extended_reader.proofs.Histories.{no_ways}
use Rattle.std.proofs.lemmas.Grind.{common_steps}
use Rattle.std.proofs.Common.{arith, rules}
use Rattle.extended_reader.proofs.text_drafts.history_flaws.all_history_flaws.Goals as goal

pub returns : goal.returns
returns c = search (rules, no_ways)

pub returns-in-empty : goal.returns-in-empty
returns-in-empty c = grind (arith, common_steps) steps 2000000

pub loop-way-preserved : goal.loop-way-preserved
loop-way-preserved c = grind (arith, common_steps) steps 2000000
