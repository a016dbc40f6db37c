use Rattle.sc_text.specs.Inside.{nothing, refused}
use Rattle.sc_text.proofs.scan.next_step.Goals as goal

pub returns-in-Err : goal.returns-in-Err
returns-in-Err c = let h = c.in-Err.ensures in refused c.in-Some.length _ c.in-Some.ensures.cuts h

pub returns-in-None : goal.returns-in-None
returns-in-None c = nothing c.in-None.ensures
