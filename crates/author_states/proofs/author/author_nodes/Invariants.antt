use Rattle.std.proofs.Common.{◌≡◌, ◌++◌, drop}
use Rattle.author_states.specs.Author.{author_nodes}
use Rattle.author_states.proofs.author.author_nodes.Given as goal

abbrev pub invariant-loop-node : goal.invariant-loop-node
invariant-loop-node l = l.made ++ author_nodes l.stand (drop l.node-index l.nodes) ≡ author_nodes l.stand l.nodes
