-- The row that is made along a chart tells at which nodes of the graph a thread rests in which state.
use Rattle.std.proofs.Common.{◌≡◌, ℕ, suc, ◌+◌, ◌<◌, Some, None, [], ◌∷◌, map, length, slice_get, refl, sym, ap, subst, ◌∙◌, arith}
use Rattle.sc_text.proofs.EachItem.{Each}
use Rattle.core_charts.specs.Chart.{Chart}
use Rattle.core_charts.specs.Rules.{depth_limit}
use Rattle.chart_machine.specs.Table as table
use Rattle.scl.specs.declared.program.Scl.{Scl}
use Rattle.scl.specs.declared.statement.Statement.TheVariants as statement
use Rattle.scl.specs.Block.{End}
use Rattle.scl.specs.Numbering.{Piece, piece_of, all_branch_counts}
use Rattle.scl_graph_laws.proofs.Segments.{stand_all, stand_from}
use Rattle.scl_graph_laws.proofs.Numbers.{no_nodes}
use Rattle.node_states.specs.Nodes as row
use Rattle.chart_lowering_laws.specs.Laws.{IsLowering}
use Rattle.chart_lowering_laws.specs.Marks.{marks}
use Rattle.chart_lowering_laws.proofs.Texts.{fork_piece}
use Rattle.chart_lowering_laws.proofs.Finding.{main_branch}
use Rattle.chart_lowering_laws.proofs.Marking.{regions_marked}
use Rattle.chart_lowering_laws.proofs.Lowered.{k, root, l, keeps, many_states, bodies, first, last, bs, root_is, first_place}
use Rattle.compiled_charts_laws.specs.Nodes.{StandForStates}
use Rattle.compiled_charts_laws.proofs.NodeCounts.{counts_of}
use Rattle.compiled_charts_laws.proofs.StateCounts.{RegionHas, regions_have, side_states}
use Rattle.compiled_charts_laws.proofs.Walking.{StateAt, walk_side}
use Rattle.compiled_charts_laws.proofs.Regions.{regions_walk}
use Rattle.compiled_charts_laws.proofs.Reading.{node_of, pause_told, fork_told}

module _ (c : Chart) (p : Scl) (low : IsLowering c p) where
  abbrev nodes : row.Nodes
  nodes = row.state_of_node c

  many_nodes : (first c p low).base ≡ 3
  many_nodes =
      let own : (counts_of p.body).nodes ≡ (counts_of (statement.Fork (bodies c p low) ∷ [])).nodes =
      ap (λ xs. (counts_of xs).nodes) low.body in
      let fork : (piece_of (statement.Fork (bodies c p low))).counts.nodes ≡ 2 + (all_branch_counts (map (map piece_of) (bodies c p low))).nodes =
      ap (λ (q : Piece). q.counts.nodes) (fork_piece (bodies c p low)) in
      let none : (all_branch_counts (map (map piece_of) (bodies c p low))).nodes ≡ 0 = no_nodes (map (map piece_of) (bodies c p low)) in
      omega (arith, own, fork, none)

  state_there : (s : ℕ) → s < length (k c p low).states → StateAt (root c p low) (keeps c p low) (marks c) nodes s
  state_there s less =
      let have : Each RegionHas c.regions = regions_have c.variables depth_limit c.regions low.core.regions in
      let many : length (k c p low).states ≡ table.states_in (map table.subtree_of_region c.regions) = many_states c p low in
      let same : row.states_in (map row.piece_of_region c.regions) ≡ table.states_in (map table.subtree_of_region c.regions) = side_states c.regions have in
      walk_side (root c p low) (keeps c p low) (marks c) nodes c.regions
      (regions_walk (root c p low) (keeps c p low) (marks c) nodes c.variables depth_limit c.regions low.core.regions) have
      (regions_marked c.variables depth_limit c.regions low.core.regions) 0 1 (first c p low) (stand_all (marks c))
      (stand_from nodes 3 (first c p low).base (row.beside (map row.piece_of_region c.regions) 0) (sym many_nodes) (stand_all nodes).1.1.1)
      (λ u b h. main_branch (root c p low) (keeps c p low) 0 0 u (bs c p low) b (End (last c p low)) (first_place c p low) h)
      s (omega arith) (omega (arith, less, many, same))

  pub nodes_stand : StandForStates (k c p low) (root c p low) (l c p low) nodes
  nodes_stand = record {
    pauses = λ s n rest less asked. pause_told (root c p low) (keeps c p low) (marks c) nodes s (state_there s less) n rest asked;
    forks = λ s n branches rest less asked. fork_told (root c p low) (keeps c p low) (marks c) nodes s (state_there s less) n branches rest asked;
    top = λ n branches rest asked. subst (λ m. slice_get nodes (suc m) ≡ Some None) (ap node_of (sym (root_is c p low) ∙ asked)) refl;
  }

  -- as many states as the table has
  pub as_many_states : length (k c p low).states ≡ row.state_count c
  as_many_states =
      let have : Each RegionHas c.regions = regions_have c.variables depth_limit c.regions low.core.regions in
      let many : length (k c p low).states ≡ table.states_in (map table.subtree_of_region c.regions) = many_states c p low in
      many ∙ sym (side_states c.regions have)
