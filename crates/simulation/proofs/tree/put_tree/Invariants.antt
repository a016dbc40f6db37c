use Rattle.std.proofs.Common.{◌≡◌, ◌++◌, drop, map, string_bytes}
use Rattle.simulation.specs.Tree.{tree_from, tree_text}
use Rattle.simulation.proofs.tree.put_tree.Given as goal

abbrev pub invariant-loop-number : goal.invariant-loop-number
invariant-loop-number l =
    string_bytes l.text ++ tree_from l.number (map string_bytes (drop l.number l.paths)) l.active
    ≡ string_bytes l.fn.text ++ tree_text (map string_bytes l.paths) l.active
