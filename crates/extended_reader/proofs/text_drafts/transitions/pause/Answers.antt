use Rattle.extended_reader.proofs.Pieces.{at_once_gives, pause_missing, waiting_gives, waiting_stops}
use Rattle.std.proofs.Common.{rules}
use Rattle.extended_reader.proofs.text_drafts.transitions.pause.Goals as goal

pub returns-then-word_follows : goal.returns-then-word_follows
returns-then-word_follows c = search (rules, at_once_gives)

pub returns-then-not-name_follows : goal.returns-then-not-name_follows
returns-then-not-name_follows c = search (rules, pause_missing)

pub returns : goal.returns
returns c = search (rules, waiting_gives)

pub returns-in_err-delay : goal.returns-in_err-delay
returns-in_err-delay c = search (rules, waiting_stops)
