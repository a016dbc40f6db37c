use Rattle.std.proofs.Common.{◌≡◌, ◌++◌, map, drop, string_bytes}
use Rattle.image_listing.specs.Nodes.{nodes_text}
use Rattle.image_listing.proofs.nodes.nodes_text.Given as goal

abbrev pub invariant-loop-node : goal.invariant-loop-node
invariant-loop-node l = (l.number ≡ l.node-index)
    × (string_bytes l.text ++ nodes_text (map string_bytes l.cells) l.variables l.tables l.node-index (drop l.node-index l.nodes)
    ≡ nodes_text (map string_bytes l.cells) l.variables l.tables 0 l.nodes)
