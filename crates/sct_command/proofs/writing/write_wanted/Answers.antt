use Rattle.sct_command.proofs.Written.{missed, none_missed, refuses, writes}
use Rattle.sct_command.proofs.writing.write_wanted.Goals as goal

pub returns-clause-done : goal.returns-clause-done
returns-clause-done g c = writes _ _ c.made_for-made.result c.write_made.result _ _ c.made_for-made.ensures.made c.write_made.ensures.done

pub returns-clause-refused : goal.returns-clause-refused
returns-clause-refused g c = refuses _ _ _ c.made_for-made.result c.write_made.result _ _ c.made_for-made.ensures.made c.made_for-made.ensures.lacks
    c.write_made.ensures.refused

pub returns-clause-none_missed : goal.returns-clause-none_missed
returns-clause-none_missed g c = none_missed _ c.made_for-made.result c.write_made.result _ _ _ _ c.made_for-made.ensures.none_failed c.write_made.ensures.done

pub returns-clause-missed : goal.returns-clause-missed
returns-clause-missed g c = missed _ c.made_for-made.result c.write_made.result _ _ _ _ c.made_for-made.ensures.none_failed c.made_for-made.ensures.failed
    c.write_made.ensures.refused
