use Rattle.std.proofs.Common.{◌≡◌, ◌++◌, drop, map, string_bytes}
use Rattle.simulation.specs.Tree.{active_text}
use Rattle.simulation.proofs.tree.put_active.Given as goal

abbrev pub invariant-loop-number : goal.invariant-loop-number
invariant-loop-number l =
    string_bytes l.text ++ active_text (map string_bytes l.paths) (drop l.number-index l.active)
    ≡ string_bytes l.fn.text ++ active_text (map string_bytes l.paths) l.active
