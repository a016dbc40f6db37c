use Rattle.extended_reader.proofs.Checking.{both_told}
use Rattle.std.proofs.Common.{rules}
use Rattle.extended_reader.proofs.text_drafts.checked.extended_told_flaws.Goals as goal

pub returns-in-Ok : goal.returns-in-Ok
returns-in-Ok c = search (rules, both_told)
