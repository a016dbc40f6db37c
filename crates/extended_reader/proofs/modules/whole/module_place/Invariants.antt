use Rattle.std.proofs.Common.{◌≡◌, ◌+◌, false, length}
use Rattle.extended_reader.specs.Modules.{module_place}
use Rattle.extended_reader.proofs.modules.whole.module_place.Given as goal

abbrev pub invariant-loop-at : goal.invariant-loop-at
invariant-loop-at l = record {
  place : l.at + module_place l.may_begin l.left ≡ module_place false l.text;
  left : l.at + length l.left ≡ length l.text;
}
