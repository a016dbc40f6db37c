use Rattle.std.proofs.Common.{◌≡◌, drop}
use Rattle.extended_reader.specs.Comments.{is_closed}
use Rattle.extended_reader.specs.declared.comments.part.Part.TheVariants as part
use Rattle.extended_reader.proofs.comments.clearing.is_closed.Given as goal

abbrev pub invariant-loop-byte : goal.invariant-loop-byte
invariant-loop-byte l = is_closed l.part (drop l.byte-index l.rest) ≡ is_closed part.BehindSlash l.rest
