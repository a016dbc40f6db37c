use Rattle.std.proofs.Common.{rules}
use Rattle.sct_command.proofs.Compiled.{faulty_reported}
use Rattle.sct_command.proofs.source_image.source_told.Goals as goal

pub returns-in-Err-clause-reported : goal.returns-in-Err-clause-reported
returns-in-Err-clause-reported g c =
    faulty_reported _ _ _ _ _ _ _ _ c.in_ok-bytes.ensures.bytes c.deref.ensures.value c.deref-in-Err.ensures.value c.in-Err.ensures.fault c.say_report.ensures

pub returns-in-Err-clause-fault : goal.returns-in-Err-clause-fault
returns-in-Err-clause-fault g c = search rules
