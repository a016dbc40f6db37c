use Rattle.scl_reader.proofs.Declaring.{declaration_reads, end_stops, kind_stops, name_stops, role_stops}
use Rattle.std.proofs.Common.{rules}
use Rattle.scl_reader.proofs.text_drafts.declarations.declaration.Goals as goal

pub returns-in_err-role : goal.returns-in_err-role
returns-in_err-role c = search (rules, role_stops)

pub returns-in_err-kind : goal.returns-in_err-kind
returns-in_err-kind c = search (rules, kind_stops)

pub returns-in_err-called : goal.returns-in_err-called
returns-in_err-called c = search (rules, name_stops)

pub returns-in_err-after : goal.returns-in_err-after
returns-in_err-after c = search (rules, end_stops)

pub returns : goal.returns
returns c = search (rules, declaration_reads)
