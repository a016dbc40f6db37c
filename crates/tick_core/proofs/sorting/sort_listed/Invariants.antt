use Rattle.tick_core.specs.Inside.Waking.{EnteredThose}
use Rattle.tick_core.proofs.sorting.sort_listed.Given as goal

abbrev pub invariant-loop-at : goal.invariant-loop-at
invariant-loop-at l = EnteredThose l.program l.tables l.control l.listed l.at l.rows
