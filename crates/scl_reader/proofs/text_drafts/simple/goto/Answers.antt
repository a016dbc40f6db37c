use Rattle.scl_reader.proofs.Single.{goto_end_stops, goto_reads, goto_stops, target_stops}
use Rattle.std.proofs.Common.{rules}
use Rattle.scl_reader.proofs.text_drafts.simple.goto.Goals as goal

pub returns-in_err-target : goal.returns-in_err-target
returns-in_err-target c = search (rules, goto_stops)

pub returns-in_err-called : goal.returns-in_err-called
returns-in_err-called c = search (rules, target_stops)

pub returns-in_err-after : goal.returns-in_err-after
returns-in_err-after c = search (rules, goto_end_stops)

pub returns : goal.returns
returns c = search (rules, goto_reads)
