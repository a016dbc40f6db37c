use Rattle.scl_reader.proofs.Values.{closing_stops, value_taken}
use Rattle.std.proofs.Common.{rules}
use Rattle.scl_reader.proofs.text_drafts.value.value.Goals as goal

pub returns-in_err-after : goal.returns-in_err-after
returns-in_err-after c = search (rules, closing_stops)

pub returns : goal.returns
returns c = search (rules, value_taken)
