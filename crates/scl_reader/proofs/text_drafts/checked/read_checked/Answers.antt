use Rattle.scl_reader.proofs.Checking.{flawed, flawless}
use Rattle.scl_reader.proofs.text_drafts.checked.read_checked.Goals as goal

pub returns-in-Some-clause-fault : goal.returns-in-Some-clause-fault
returns-in-Some-clause-fault c =
    flawed c.args.text.now c.in_ok-draft.draft c.in_ok-first.first c.in-Some.flaw c.in_ok-draft.ensures.ok c.in_ok-first.ensures c.in-Some.is

pub returns-in-None-clause-ok : goal.returns-in-None-clause-ok
returns-in-None-clause-ok c =
    flawless c.args.text.now c.in_ok-draft.draft c.in_ok-first.first c.in_ok-draft.ensures.ok c.in_ok-first.ensures c.in-None.is
