use Rattle.extended_reader.proofs.Leads.{more_missing, more_stops, more_there}
use Rattle.std.proofs.Common.{rules}
use Rattle.extended_reader.proofs.text_drafts.targets.two_more.Goals as goal

pub returns-then-not-name_follows : goal.returns-then-not-name_follows
returns-then-not-name_follows c = search (rules, more_missing)

pub returns : goal.returns
returns c = search (rules, more_there)

pub returns-in_err-more : goal.returns-in_err-more
returns-in_err-more c = search (rules, more_stops)
