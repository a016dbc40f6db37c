use Rattle.std.proofs.Common.{◌≡◌, ◌≤◌, drop}
use Rattle.extended_reader.specs.Modules.{closing}
use Rattle.extended_reader.proofs.modules.bodies.closing.Given as goal

abbrev pub invariant-loop-at : goal.invariant-loop-at
invariant-loop-at l = record {
  shallow : l.depth ≤ l.at;
  place : closing l.at l.depth (drop l.at l.text) ≡ closing 0 0 l.text;
}
