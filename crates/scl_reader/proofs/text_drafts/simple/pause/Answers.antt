use Rattle.scl_reader.proofs.Single.{pause_end_stops, pause_reads, pause_stops}
use Rattle.std.proofs.Common.{rules}
use Rattle.scl_reader.proofs.text_drafts.simple.pause.Goals as goal

pub returns-in_err-rest : goal.returns-in_err-rest
returns-in_err-rest c = search (rules, pause_stops)

pub returns-in_err-after : goal.returns-in_err-after
returns-in_err-after c = search (rules, pause_end_stops)

pub returns : goal.returns
returns c = search (rules, pause_reads)
