use Rattle.chart_reader.proofs.Pieces.{placed_gives, placed_stops}
use Rattle.std.proofs.Common.{rules}
use Rattle.chart_reader.proofs.text_drafts.transitions.placed.Goals as goal

pub returns-in_err-operations : goal.returns-in_err-operations
returns-in_err-operations c = search (rules, placed_stops)

pub returns : goal.returns
returns c = search (rules, placed_gives)
