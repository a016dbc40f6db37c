use Rattle.chart_reader.proofs.Pieces.{flag_missing, flag_there}
use Rattle.std.proofs.Common.{rules}
use Rattle.chart_reader.proofs.text_drafts.words.flag.Goals as goal

pub returns : goal.returns
returns c = search (rules, flag_there)

pub returns-then-not-word_follows : goal.returns-then-not-word_follows
returns-then-not-word_follows c = search (rules, flag_missing)
