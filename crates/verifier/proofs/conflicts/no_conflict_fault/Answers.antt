use Rattle.verifier.proofs.Ordering.{no_conflicts_kept}
use Rattle.verifier.proofs.conflicts.no_conflict_fault.Goals as goal

pub returns-in-Some : goal.returns-in-Some
returns-in-Some c = let conflict = rw c.in-Some.is at c.in_ok-m.ensures in λ kept. kept conflict

pub returns-in-None : goal.returns-in-None
returns-in-None c = let none = rw c.in-None.is at c.in_ok-m.ensures in no_conflicts_kept c.args.program.now none
