use Rattle.scl_printer.proofs.Written.{printed, ended, grows, none_failed, one_failed, ok_then, err_then}
use Rattle.scl_printer.proofs.program.print.Goals as goal

pub returns-clause-ok : goal.returns-clause-ok
returns-clause-ok g c =
    ok_then _ _ _
    (ended _ _ _ _ (printed _ _ _ _ c.new-buffered.ensures.held c.new-buffered.ensures.failed c.write_program.ensures c.finish.ensures.written)
    c.finish.ensures.held)
    c.finish.ensures.whole

pub returns-clause-none_failed : goal.returns-clause-none_failed
returns-clause-none_failed g c =
    ok_then _ _ _
    (none_failed _ _ _ _ (printed _ _ _ _ c.new-buffered.ensures.held c.new-buffered.ensures.failed c.write_program.ensures c.finish.ensures.written))
    c.finish.ensures.whole

pub returns-clause-some : goal.returns-clause-some
returns-clause-some g c = grows _ _ _ _
    (printed _ _ _ _ c.new-buffered.ensures.held c.new-buffered.ensures.failed c.write_program.ensures c.finish.ensures.written)

pub returns-clause-failed : goal.returns-clause-failed
returns-clause-failed g c =
    err_then _ _ _
    (one_failed _ _ _ _ (printed _ _ _ _ c.new-buffered.ensures.held c.new-buffered.ensures.failed c.write_program.ensures c.finish.ensures.written))
    c.finish.ensures.failed
