use Rattle.scl_printer.proofs.Written.{sent_whole, sent_part}
use Rattle.scl_printer.proofs.buffered.send.Goals as goal

pub returns-in-Ok : goal.returns-in-Ok
returns-in-Ok g c = rw c.if-failed.false (sent_whole _ _ _ _ _ c.in-Ok.ensures.ok c.in-Ok.ensures.none_failed)

pub returns-in-Err : goal.returns-in-Err
returns-in-Err g c = rw c.if-failed.false (sent_part _ _ _ _ _ c.in-Err.ensures.some c.in-Err.ensures.failed)
