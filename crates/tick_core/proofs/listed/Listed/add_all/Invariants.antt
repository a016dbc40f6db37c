use Rattle.tick_core.specs.Inside.Astir.{GainsBelow}
use Rattle.tick_core.proofs.listed.Listed.add_all.Given as goal

abbrev pub invariant-loop-at : goal.invariant-loop-at
invariant-loop-at l = GainsBelow l.initial.self l.threads l.at l.self
