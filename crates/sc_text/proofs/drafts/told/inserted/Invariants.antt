use Rattle.std.proofs.Common.{◌≡◌, ◌++◌, drop}
use Rattle.sc_text.specs.Told.{inserted}
use Rattle.sc_text.specs.Inside.Drafts.{placed}
use Rattle.sc_text.proofs.drafts.told.inserted.Given as goal

abbrev pub invariant-loop-other : goal.invariant-loop-other
invariant-loop-other l = l.all ++ placed l.left (drop l.other-index l.found) ≡ inserted l.fn.flaw l.found
