use Rattle.std.proofs.Common.{◌≡◌, ◌-◌}
use Rattle.bytecode.specs.Reading.{each_at}
use Rattle.bytecode.specs.Reading.Fields.{variable_at}
use Rattle.bytecode.proofs.Loop.{with_front}
use Rattle.bytecode.proofs.reading.image.variable_list.Given as goal

abbrev pub invariant-loop : goal.invariant-loop
invariant-loop l = with_front l.variables (each_at variable_at (l.count - l.counter) l.rest) ≡ each_at variable_at l.count l.bytes
