use Rattle.extended_reader.proofs.SimplePlaces.{region_is}
use Rattle.std.proofs.lemmas.Grind.{common_steps}
use Rattle.std.proofs.Common.{arith, rules}
use Rattle.extended_reader.proofs.text_drafts.simple_targets.+targets.Goals as goal

pub put_states-loop-state-preserved : goal.put_states-loop-state-preserved
put_states-loop-state-preserved t c = grind (arith, common_steps) steps 2000000

pub put_targets-loop-region-preserved : goal.put_targets-loop-region-preserved
put_targets-loop-region-preserved t c = grind (arith, common_steps) steps 2000000

pub put_region-returns : goal.put_region-returns
put_region-returns t c = search (rules, region_is)
