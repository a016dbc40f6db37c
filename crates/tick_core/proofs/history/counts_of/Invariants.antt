use Rattle.tick_core.proofs.Reports.{Counted}
use Rattle.tick_core.proofs.history.counts_of.Given as goal

abbrev pub invariant-loop-entry : goal.invariant-loop-entry
invariant-loop-entry l = Counted l.counts l.history l.entry-index
