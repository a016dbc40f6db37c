use Rattle.std.proofs.Common.{◌≡◌, ◌-◌}
use Rattle.std.specs.Int.{w16}
use Rattle.bytecode.specs.Reading.{each_at}
use Rattle.bytecode.specs.Reading.Fields.{number_at}
use Rattle.bytecode.proofs.Loop.{with_front}
use Rattle.bytecode.proofs.reading.nodes.children.Given as goal

abbrev pub invariant-loop : goal.invariant-loop
invariant-loop l = with_front l.children (each_at (number_at w16) (l.count - l.counter) l.rest) ≡ each_at (number_at w16) l.count l.bytes
