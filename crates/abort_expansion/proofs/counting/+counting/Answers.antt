use Rattle.std.proofs.Common.{arith}
use Rattle.std.proofs.lemmas.Grind.{common_steps}
use Rattle.abort_expansion.proofs.counting.+counting.Goals as goal

pub region_size-loop-state-preserved : goal.region_size-loop-state-preserved
region_size-loop-state-preserved t c = grind (arith, common_steps) steps 2000000

pub region_size-returns-clause-superstates : goal.region_size-returns-clause-superstates
region_size-returns-clause-superstates t c = grind (arith, common_steps) steps 2000000

pub region_size-returns-clause-states : goal.region_size-returns-clause-states
region_size-returns-clause-states t c = grind (arith, common_steps) steps 2000000

pub region_size-returns-clause-variables : goal.region_size-returns-clause-variables
region_size-returns-clause-variables t c = grind (arith, common_steps) steps 2000000

pub state_size-loop-region-preserved : goal.state_size-loop-region-preserved
state_size-loop-region-preserved t c = grind (arith, common_steps) steps 2000000

pub state_size-returns-clause-superstates : goal.state_size-returns-clause-superstates
state_size-returns-clause-superstates t c = grind (arith, common_steps) steps 2000000

pub state_size-returns-clause-states : goal.state_size-returns-clause-states
state_size-returns-clause-states t c = grind (arith, common_steps) steps 2000000

pub state_size-returns-clause-variables : goal.state_size-returns-clause-variables
state_size-returns-clause-variables t c = grind (arith, common_steps) steps 2000000
