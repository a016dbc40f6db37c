use Rattle.std.proofs.Common.{◌≡◌, ◌++◌, false, drop, map, take}
use Rattle.extended_reader.specs.Comments.{blank, cleared, is_closed}
use Rattle.extended_reader.specs.declared.comments.part.Part.TheVariants as part
use Rattle.extended_reader.proofs.Characters.{stays}
use Rattle.extended_reader.proofs.comments.lengths.rest_length.Given as goal

abbrev pub invariant-loop-i : goal.invariant-loop-i
invariant-loop-i l = record {
  inside : stays l.part ≡ false;
  closed : is_closed l.part (drop l.i l.bytes) ≡ is_closed part.Block l.bytes;
  cleared : cleared part.Block l.bytes ≡ map blank (take l.i l.bytes) ++ cleared l.part (drop l.i l.bytes);
}
