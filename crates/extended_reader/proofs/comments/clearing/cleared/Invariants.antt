use Rattle.std.proofs.Common.{◌≡◌, ◌++◌, drop}
use Rattle.extended_reader.specs.Comments.{cleared, without_comments}
use Rattle.extended_reader.proofs.comments.clearing.cleared.Given as goal

abbrev pub invariant-loop-i : goal.invariant-loop-i
invariant-loop-i l = l.cleared.items ++ cleared l.part (drop l.i l.text) ≡ without_comments l.text
