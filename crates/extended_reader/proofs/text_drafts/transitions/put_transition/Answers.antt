use Rattle.extended_reader.proofs.Putting.{both_put}
use Rattle.extended_reader.proofs.text_drafts.transitions.put_transition.Goals as goal

pub returns : goal.returns
returns c = both_put _ _ _ _ _ _ _ _ c.in_ok-next.ensures c.in_ok-put_both.ensures.next c.in_ok-put_both.ensures.way
