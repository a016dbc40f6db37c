use Rattle.std.proofs.Common.{◌≡◌, ◌++◌, map, drop}
use Rattle.controller_tests.specs.Told.{shown_byte}
use Rattle.controller_tests.proofs.shown.shown_bytes.Given as goal

abbrev pub invariant-loop-byte : goal.invariant-loop-byte
invariant-loop-byte l = l.shown.items ++ map shown_byte (drop l.byte-index l.line) ≡ map shown_byte l.line
