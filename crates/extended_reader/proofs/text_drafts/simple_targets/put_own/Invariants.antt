use Rattle.std.proofs.Common.{◌≡◌, ◌++◌, map, drop}
use Rattle.extended_reader.specs.Targets.{target_among}
use Rattle.extended_reader.proofs.text_drafts.simple_targets.put_own.Given as goal

abbrev pub invariant-loop-transition : goal.invariant-loop-transition
invariant-loop-transition l =
    l.found ++ map (target_among l.simple.names) (drop l.transition-index l.transitions)
    ≡ l.fn.found ++ map (target_among l.simple.names) l.transitions
