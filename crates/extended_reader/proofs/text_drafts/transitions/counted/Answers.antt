use Rattle.extended_reader.proofs.Pieces.{count_missing, count_stops, count_there}
use Rattle.std.proofs.Common.{rules}
use Rattle.extended_reader.proofs.text_drafts.transitions.counted.Goals as goal

pub returns-then-not-name_follows : goal.returns-then-not-name_follows
returns-then-not-name_follows c = search (rules, count_missing)

pub returns : goal.returns
returns c = search (rules, count_there)

pub returns-in_err-count : goal.returns-in_err-count
returns-in_err-count c = search (rules, count_stops)
