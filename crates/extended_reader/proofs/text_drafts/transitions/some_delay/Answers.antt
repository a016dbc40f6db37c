use Rattle.extended_reader.proofs.Pieces.{some_delay_gives}
use Rattle.std.proofs.Common.{rules}
use Rattle.extended_reader.proofs.text_drafts.transitions.some_delay.Goals as goal

pub returns-in-Ok : goal.returns-in-Ok
returns-in-Ok c = search (rules, some_delay_gives)
