use Rattle.std.proofs.lemmas.Grind.{elements}
use Rattle.std.proofs.Common.{◌≡◌, ◌+◌, ◌++◌, ◌∷◌, [], List, ℕ, length, take, ap, ◌∙◌, arith}
use Rattle.std.proofs.lemmas.List.{flat_map_more}
use Rattle.bytecode.specs.declared.rows.NodeRow.{NodeRow}
use Rattle.bytecode.specs.Nodes.{node_bytes}
use Rattle.bytecode.specs.Layout.{node_rows}
use Rattle.bytecode.specs.Fits.{SayableNode}
use Rattle.bytecode.proofs.Columns.{node_rows_more, all_push}
use Rattle.bytecode.proofs.writing.image.put_nodes.Goals as goal

pub loop-n-preserved : goal.loop-n-preserved
loop-n-preserved c =
    let nodes = c.nodes-nodes.result.now in
    let q = c.args.tables.now in
    let n = c.loop-n.n in
    let row : NodeRow = record { node = c.index-nodes-n.result; priority = c.priority.result; weight = c.weight.result; end_bit = c.end_bit.result } in
    let front = node_rows (take n nodes) q.priorities q.weights q.end_bits in
    let counted : length nodes ≡ length c.args.program.now.nodes = ap length c.nodes-nodes.ensures in
    let next : node_rows (take (n + 1) nodes) q.priorities q.weights q.end_bits ≡ front ++ row ∷ [] =
    node_rows_more nodes q.priorities q.weights q.end_bits n row (omega arith) (omega arith) (omega arith) (omega arith)
    c.index-nodes-n.is c.priority.ensures c.weight.ensures c.end_bit.ensures in
    rw next (record {
      written = c.in_ok-put_node.ensures.written ∙ ap (λ (bytes : List ℕ). bytes ++ node_bytes row) c.loop-n.invariant.written
          ∙ flat_map_more node_bytes c.args.out.now.items front row;
      fits = all_push (SayableNode 2) front row c.loop-n.invariant.fits c.in_ok-put_node.ensures.fits;
    })

pub put_node-requires : goal.put_node-requires
put_node-requires c = grind (arith, elements) steps 2000000

pub returns-clause-written : goal.returns-clause-written
returns-clause-written c = grind (arith, elements) steps 2000000

pub returns-clause-fits : goal.returns-clause-fits
returns-clause-fits c = grind (arith, elements) steps 2000000
