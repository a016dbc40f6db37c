use Rattle.tick_core.specs.Space.There.{ClearedBelow}
use Rattle.tick_core.proofs.there.clear_listed.Given as goal

abbrev pub invariant-loop-at : goal.invariant-loop-at
invariant-loop-at l = ClearedBelow l.initial.statuses l.statuses l.listed l.at
