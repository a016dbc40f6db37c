-- The whole chart: each of its states and regions has its row in the chart's table and its text in the lowering.
use Rattle.std.proofs.Common.{◌≡◌, inl, suc, ◌+◌, List, map, refl, subst, ℕ, zero, ◌<◌, ◌≤◌, true, false}
use Rattle.std.proofs.Common.{if◌then◌else◌, [], ◌∷◌, ◌++◌, length, count_by, sym, ◌∙◌, arith}
use Rattle.core_charts.specs.declared.features.Features.TheVariants as features
use Rattle.core_charts.specs.Chart.{Chart}
use Rattle.core_charts.specs.Rules.{IsChart, depth_limit, IsRegion, AreRegions}
use Rattle.chart_machine.specs.declared.table.SubtreeRows.{SubtreeRows}
use Rattle.chart_machine.specs.Table.{table, whole, side_by_side, states_in, regions_in, region_numbers, subtree_of_region}
use Rattle.scl.specs.declared.program.Scl.{Scl}
use Rattle.scl.specs.declared.statement.Statement.{Statement}
use Rattle.scl.specs.Rules.{KeepsRules}
use Rattle.scl.specs.Block.{Block, Fork, End}
use Rattle.scl.specs.Numbering.{Piece, Numbers, numbered, piece_of, pieces_of, in_row, branches_from}
use Rattle.scl_graph_laws.proofs.RunsKept.{keeps_scopes}
use Rattle.scl_graph_laws.proofs.Segments.{stand_all}
use Rattle.scl_graph_laws.proofs.Scopes.{KeepsScopes}
use Rattle.chart_lowering.specs.Lowering.{branches, lowered, piece_of_region as low_of_region}
use Rattle.chart_lowering_laws.proofs.Texts.{made, fork_piece}
use Rattle.chart_lowering_laws.proofs.Counting.{regions_count, CountsState, state_counts}
use Rattle.chart_lowering_laws.proofs.Finding.{MainPlace, main_whole, main_branch}
use Rattle.chart_lowering_laws.proofs.Rows.{regions_rowed, StateRowed, state_is_rowed}
use Rattle.chart_lowering_laws.specs.Marks.{marks, Mark}
use Rattle.chart_lowering_laws.proofs.Marking.{regions_marked, StateMarked, state_is_marked}
use Rattle.chart_lowering_laws.proofs.Walking.{Found, walk_side, WalksRegion, WalksState, WalksSide}
use Rattle.chart_lowering_laws.proofs.Walking.{walk_state}
use Rattle.sc_graph.specs.declared.program.Variable.{Variable}
use Rattle.sc_text.proofs.EachItem.{Each, each_of}
use Rattle.core_charts.specs.declared.region.Region.{Region}
use Rattle.core_charts.specs.declared.region.State.{State}
use Rattle.core_charts.specs.declared.region.Region.TheViews.{out-Region, out-State}
use Rattle.chart_machine.specs.declared.table.Table.{Table}
use Rattle.chart_lowering_laws.proofs.InitialFirst.{one_initial, most_one}
use Rattle.chart_lowering_laws.proofs.Among.{walk_region}

module _ (k : Table) (ms : List Mark) (root : Block) (keeps : KeepsScopes root) (top : List ℕ) where
  -- regions of a core chart that nest this many levels deep
  pub regions_walk : (variables : List Variable) (levels : ℕ) (regions : List Region) → AreRegions features.Core variables levels regions →
      Each (WalksRegion k ms root keeps top) regions
  regions_walk variables zero regions h = subst (Each (WalksRegion k ms root keeps top)) (sym h) tt
  regions_walk variables (suc levels) regions h = each_of (WalksRegion k ms root keeps top) regions
      (λ i r at. one r (h.each i r at) (λ rs rules. walk_side k ms root keeps top rs (regions_walk variables levels rs rules)
      (regions_rowed variables levels rs rules) (regions_count variables levels rs rules) (regions_marked variables levels rs rules)))
    where
      one : (r : Region) → IsRegion features.Core variables (AreRegions features.Core variables levels) r →
          ((rs : List Region) → AreRegions features.Core variables levels rs → WalksSide k ms root keeps top rs) → WalksRegion k ms root keeps top r
      one r rules sides =
          let ss : List State = (out-Region r).states in
          walk_region k ms root keeps top r
          (each_of (WalksState k ms root keeps top (length ss)) ss (λ i s at. walk_state k ms root keeps top (length ss) variables levels s
          (rules.states i s at).regions (rules.states i s at).bare (rules.states i s at).one_join (rules.states i s at).transitions
          (regions_rowed variables levels (out-State s).regions (rules.states i s at).regions)
          (sides (out-State s).regions (rules.states i s at).regions)))
          (each_of StateRowed ss (λ i s at. state_is_rowed variables levels (length ss) (regions_rowed variables levels) s (rules.states i s at)))
          (each_of CountsState ss (λ i s at. state_counts variables levels (length ss) (regions_count variables levels) s (rules.states i s at)))
          (each_of StateMarked ss (λ i s at. state_is_marked s (regions_marked variables levels (out-State s).regions (rules.states i s at).regions)))
          (most_one ss (let one_only : count_by (λ s. (out-State s).is_initial) ss ≡ 1 = rules.one_initial in omega (arith, one_only)))
          (one_initial ss rules.one_initial)

pub chart_found : (c : Chart) (scl : Scl) → IsChart features.Core c → scl.body ≡ lowered c → (keeps : KeepsScopes (numbered scl).root) →
    Found (table c) (marks c) (numbered scl).root keeps (region_numbers (map subtree_of_region c.regions) 1) 0
    (0 + states_in (map subtree_of_region c.regions)) 1
    (1 + regions_in (map subtree_of_region c.regions))
chart_found c scl rules same keeps =
    let all : Block = (numbered scl).root in
    let bodies : List (List Statement) = branches (map low_of_region c.regions) 1 in
    let p : Piece = in_row (pieces_of scl.body) in
    let first : Numbers = record { node = 0; thread = 1; base = suc p.counts.nodes; goto = 0 } in
    let end : Block = End (0 + p.counts.nodes) in
    let text : MainPlace all keeps 0 (made (lowered c) first end) = subst (λ xs. MainPlace all keeps 0 (made xs first end)) same (main_whole all keeps) in
    let fork : MainPlace all keeps 0 (Fork 0 (branches_from (map (map piece_of) bodies) first) end) =
    subst (λ (x : Piece). MainPlace all keeps 0 (x.made first end)) (fork_piece bodies) text in
    let parts : SubtreeRows = side_by_side (map subtree_of_region c.regions) whole in
    walk_side (table c) (marks c) all keeps (region_numbers (map subtree_of_region c.regions) 1) c.regions
    (regions_walk (table c) (marks c) all keeps (region_numbers (map subtree_of_region c.regions) 1) c.variables depth_limit c.regions rules.regions)
    (regions_rowed c.variables depth_limit c.regions rules.regions)
    (regions_count c.variables depth_limit c.regions rules.regions)
    (regions_marked c.variables depth_limit c.regions rules.regions)
    whole 0 refl (λ q h. inl h) (stand_all parts.states) (stand_all parts.regions) 1 first (stand_all (marks c)) refl
    (λ u b h. main_branch all keeps 0 0 u (branches_from (map (map piece_of) bodies) first) b end fork h)

-- for a program that keeps the rules of SCL
pub image_found : (c : Chart) (scl : Scl) → IsChart features.Core c → scl.body ≡ lowered c → (kept : KeepsRules scl.name scl.variables scl.body) →
    Found (table c) (marks c) (numbered scl).root (keeps_scopes scl kept) (region_numbers (map subtree_of_region c.regions) 1) 0
    (0 + states_in (map subtree_of_region c.regions)) 1 (1 + regions_in (map subtree_of_region c.regions))
image_found c scl rules same kept = chart_found c scl rules same (keeps_scopes scl kept)
