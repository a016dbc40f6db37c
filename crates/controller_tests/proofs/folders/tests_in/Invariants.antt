use Rattle.std.proofs.Common.{◌≡◌, ◌++◌, drop, map, string_bytes}
use Rattle.controller_tests.proofs.Listed.{tests_from}
use Rattle.controller_tests.proofs.folders.tests_in.Given as goal

abbrev pub invariant-loop-name : goal.invariant-loop-name
invariant-loop-name l =
    map string_bytes l.tests.items ++ tests_from l.folder (map string_bytes l.names) (map string_bytes (drop l.name-index l.names))
    ≡ tests_from l.folder (map string_bytes l.names) (map string_bytes l.names)
