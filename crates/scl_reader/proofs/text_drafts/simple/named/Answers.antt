use Rattle.scl_reader.proofs.Single.{assigned_reads, assigned_stops, colon_stops, labelled_reads, name_stops}
use Rattle.std.proofs.Common.{rules}
use Rattle.scl_reader.proofs.text_drafts.simple.named.Goals as goal

pub returns-in_err-called : goal.returns-in_err-called
returns-in_err-called c = search (rules, name_stops)

pub returns-in_err-value : goal.returns-in_err-value
returns-in_err-value c = search (rules, assigned_stops)

pub returns-then-sign_follows : goal.returns-then-sign_follows
returns-then-sign_follows c = search (rules, assigned_reads)

pub returns-in_err-after : goal.returns-in_err-after
returns-in_err-after c = search (rules, colon_stops)

pub returns : goal.returns
returns c = search (rules, labelled_reads)
