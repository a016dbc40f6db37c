use Rattle.std.proofs.Common.{◌≡◌, ◌-◌, length}
use Rattle.bytecode.specs.Reading.{each_at}
use Rattle.bytecode.specs.Reading.Codes.{operation_at}
use Rattle.bytecode.proofs.Loop.{with_front}
use Rattle.bytecode.proofs.reading.codes.operations.Given as goal

abbrev pub invariant-loop : goal.invariant-loop
invariant-loop l = record {
  one_each : length l.code ≡ l.counter;
  read : with_front l.code (each_at (operation_at l.version) (l.count - l.counter) l.rest) ≡ each_at (operation_at l.version) l.count l.bytes;
}
