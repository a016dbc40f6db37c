use Rattle.std.proofs.lemmas.Grind.{elements}
use Rattle.std.proofs.Common.{arith}
use Rattle.chart_machine.proofs.standing.Standing.copied.Goals as goal

pub returns-in-Outside : goal.returns-in-Outside
returns-in-Outside c = grind (arith, elements) steps 2000000

pub returns-in-Ended : goal.returns-in-Ended
returns-in-Ended c = grind (arith, elements) steps 2000000

pub returns-in_ok-copied_transitions-in-Trying : goal.returns-in_ok-copied_transitions-in-Trying
returns-in_ok-copied_transitions-in-Trying c = grind (arith, elements) steps 2000000

pub returns-in_ok-copied_transitions-in-Entering : goal.returns-in_ok-copied_transitions-in-Entering
returns-in_ok-copied_transitions-in-Entering c = grind (arith, elements) steps 2000000

pub returns-in_ok-copied_transitions-in-Guarding : goal.returns-in_ok-copied_transitions-in-Guarding
returns-in_ok-copied_transitions-in-Guarding c = grind (arith, elements) steps 2000000

pub returns-in_ok-copied_transitions-in-Within : goal.returns-in_ok-copied_transitions-in-Within
returns-in_ok-copied_transitions-in-Within c = grind (arith, elements) steps 2000000

pub returns-in_ok-copied_effects-in-Acting : goal.returns-in_ok-copied_effects-in-Acting
returns-in_ok-copied_effects-in-Acting c = grind (arith, elements) steps 2000000
