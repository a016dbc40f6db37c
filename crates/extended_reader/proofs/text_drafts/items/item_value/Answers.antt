use Rattle.extended_reader.proofs.ItemParts.{value_missing, value_stops, value_there}
use Rattle.std.proofs.Common.{rules}
use Rattle.extended_reader.proofs.text_drafts.items.item_value.Goals as goal

pub returns-then-not-sign_follows : goal.returns-then-not-sign_follows
returns-then-not-sign_follows c = search (rules, value_missing)

pub returns : goal.returns
returns c = search (rules, value_there)

pub returns-in_err-value : goal.returns-in_err-value
returns-in_err-value c = search (rules, value_stops)
