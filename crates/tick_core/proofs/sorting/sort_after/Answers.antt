use Rattle.std.proofs.lemmas.Grind.{common_steps}
use Rattle.tick_laws.proofs.Formed.{valid_formed, parent_in_range}
use Rattle.std.proofs.Common.{◌∙◌, sym, arith}
use Rattle.tick_core.proofs.Unmoved.{ended_is_parent}
use Rattle.tick_core.proofs.sorting.sort_after.Goals as goal

pub sort-requires-in-Some-clause-place : goal.sort-requires-in-Some-clause-place
sort-requires-in-Some-clause-place c =
    parent_in_range c.args.program.now (valid_formed c.args.program.now c.args.tables.now c.requires.valid) c.args.thread c.in-Some.parent
    (ended_is_parent c.args.program.now c.args.thread _ c.in-Some.parent (sym c.ended_parent.ensures ∙ c.in-Some.is))

pub returns-clause-rows : goal.returns-clause-rows
returns-clause-rows c = grind (arith, common_steps) steps 2000000

pub sort_all-requires-clause-rows : goal.sort_all-requires-clause-rows
sort_all-requires-clause-rows c = grind (arith, common_steps) steps 2000000

pub sort_all-requires-clause-places : goal.sort_all-requires-clause-places
sort_all-requires-clause-places c = grind (arith, common_steps) steps 2000000
