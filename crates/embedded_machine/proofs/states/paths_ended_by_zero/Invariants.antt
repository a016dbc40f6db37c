use Rattle.std.proofs.Common.{◌≡◌, ◌++◌, map, drop}
use Rattle.std.specs.Prelude.{string_bytes}
use Rattle.embedded_machine.specs.Opened.{ended_by_zero}
use Rattle.embedded_machine.proofs.states.paths_ended_by_zero.Given as goal

abbrev pub invariant-loop-path : goal.invariant-loop-path
invariant-loop-path l = l.bytes.items ++ ended_by_zero (map string_bytes (drop l.path-index l.paths)) ≡ ended_by_zero (map string_bytes l.paths)
