-- All that was proved, passed on from one place, so that the check reads each file.
pub use Rattle.preemption_laws.proofs.WaitsApart.{waits_apart}
pub use Rattle.preemption_laws.proofs.WaitStarts.{ranks_first}
pub use Rattle.preemption_laws.proofs.EndsWait.{core_waits}
pub use Rattle.preemption_laws.proofs.ChartWaits.{follows}
pub use Rattle.preemption_laws.proofs.SameRest.{same_rest}
pub use Rattle.preemption_laws.proofs.CoreEnds.{core_has_end}
pub use Rattle.preemption_laws.proofs.RowsRead.{kept, does_no_more}
