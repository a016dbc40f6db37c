use Rattle.sc_text.proofs.ToldInOrder.{taken_whole}
use Rattle.std.proofs.Common.{rules}
use Rattle.sc_text.proofs.drafts.told.first_of.Goals as goal

pub returns-then-all-le-TOLD_LIMIT : goal.returns-then-all-le-TOLD_LIMIT
returns-then-all-le-TOLD_LIMIT c = search (rules, taken_whole)
