use Rattle.std.proofs.Common.{rules}
use Rattle.chart_texts.proofs.Spelling.{is_unread}
use Rattle.chart_texts.proofs.cores.spells.Goals as goal

pub returns-in-Err-Text : goal.returns-in-Err-Text
returns-in-Err-Text c = is_unread _ _ _ _ _ c.in-Err-Text.ensures.exact c.in-Err-Text.field-0-is

pub returns-in-Ok : goal.returns-in-Ok
returns-in-Ok c = search rules
