use Rattle.std.proofs.Common.{◌≡◌, ◌++◌, map, drop}
use Rattle.node_elements.specs.GraphOrigins.{behind_row, own_row, piece_of}
use Rattle.node_elements.proofs.graph.own.+own.Given as goal

abbrev pub invariant-put_own-loop-statement : goal.invariant-put_own-loop-statement
invariant-put_own-loop-statement l = record {
  origins : l.origins ++ own_row (map piece_of (drop l.statement-index l.statements)) l.here ≡ l.fn.origins ++ own_row (map piece_of l.statements)
      l.number;
  next : behind_row (map piece_of (drop l.statement-index l.statements)) l.here ≡ behind_row (map piece_of l.statements) l.number;
}
