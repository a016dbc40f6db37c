use Rattle.sc_text.proofs.ToldInOrder.{told_both}
use Rattle.std.proofs.Common.{rules}
use Rattle.extended_reader.proofs.text_drafts.checked.scoped_flaws.Goals as goal

pub returns : goal.returns
returns c = search (rules, told_both)
