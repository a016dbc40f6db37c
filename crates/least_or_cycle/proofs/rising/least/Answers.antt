use Rattle.std.proofs.Common.{arith}
use Rattle.std.proofs.lemmas.Grind.{common_steps, elements}
use Rattle.least_or_cycle.proofs.rising.least.Goals as goal

pub returns-then-not-raise_parts-clause-least : goal.returns-then-not-raise_parts-clause-least
returns-then-not-raise_parts-clause-least g c = grind (arith, elements) steps 2000000

pub returns-then-not-raise_parts-clause-within : goal.returns-then-not-raise_parts-clause-within
returns-then-not-raise_parts-clause-within g c = grind (arith, elements) steps 2000000

pub returns-then-branch-clause-within : goal.returns-then-branch-clause-within
returns-then-branch-clause-within g c = grind (arith, elements) steps 2000000

pub returns-then-rises-clause-within : goal.returns-then-rises-clause-within
returns-then-rises-clause-within g c = grind (arith, elements) steps 2000000

pub returns-else-rises-clause-least : goal.returns-else-rises-clause-least
returns-else-rises-clause-least g c = grind (arith, elements) steps 2000000

pub returns-else-rises-clause-within : goal.returns-else-rises-clause-within
returns-else-rises-clause-within g c = grind (arith, elements) steps 2000000

pub returns-then-branch-clause-least : goal.returns-then-branch-clause-least
returns-then-branch-clause-least g c = grind (arith, common_steps) steps 2000000

pub returns-then-rises-clause-least : goal.returns-then-rises-clause-least
returns-then-rises-clause-least g c = grind (arith, common_steps) steps 2000000

pub rises-requires-clause-under : goal.rises-requires-clause-under
rises-requires-clause-under g c = grind (arith, common_steps) steps 2000000

pub raise_parts-requires : goal.raise_parts-requires
raise_parts-requires g c = grind (arith, common_steps) steps 2000000
