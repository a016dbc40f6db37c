-- The project's lowering of a core chart is a lowering of its table.
use Rattle.std.proofs.Common.{◌≡◌, ◌≢◌, ℕ, suc, ◌+◌, ◌<◌, inl, inr, Bool, true, false, List, [], ◌∷◌, map, length, Contains, refl, ap, subst, ◌∙◌, arith}
use Rattle.sc_text.proofs.EachItem.{Each, each_map}
use Rattle.core_charts.specs.declared.region.Region.{Region}
use Rattle.core_charts.specs.declared.region.Region.TheViews.{out-State}
use Rattle.core_charts.specs.Chart.{Chart}
use Rattle.core_charts.specs.Rules.{depth_limit}
use Rattle.chart_machine.specs.declared.table.SubtreeRows.{SubtreeRows}
use Rattle.chart_machine.specs.declared.table.Table.{Table}
use Rattle.chart_machine.specs.Table.{table, whole, state_at, region_at, region_numbers, side_by_side, states_in, regions_in, subtree_of_region}
use Rattle.scl.specs.declared.program.Scl.{Scl}
use Rattle.scl.specs.declared.statement.Statement.{Statement}
use Rattle.scl.specs.declared.statement.Statement.TheVariants as statement
use Rattle.scl.specs.Block.{Block, Fork, End, Branches}
use Rattle.scl.specs.Numbering.{Piece, Numbers, numbered, piece_of, pieces_of, in_row, branches_from, all_branch_counts}
use Rattle.scl_graph_laws.specs.Settling.{EachSettles, Settling}
use Rattle.scl_graph_laws.proofs.RunsKept.{keeps_scopes}
use Rattle.scl_graph_laws.proofs.Looping.{no_loop_settles}
use Rattle.scl_graph_laws.proofs.Jumping.{places_settle}
use Rattle.scl_graph_laws.proofs.Segments.{stand_all}
use Rattle.scl_graph_laws.proofs.Scopes.{KeepsScopes, stay_within}
use Rattle.chart_lowering.specs.Lowering.{branches}
use Rattle.chart_lowering.specs.Lowering.{piece_of_region as low_of_region}
use Rattle.chart_lowering_laws.specs.Layout.{Layout, Lowers, IsTree, IsRoot, IsRegionOf, StandsThere}
use Rattle.chart_lowering_laws.specs.Marks.{marks, layout}
use Rattle.chart_lowering_laws.specs.Laws.{IsLowering}
use Rattle.tick_laws.proofs.Lists.{contains_head}
use Rattle.chart_lowering_laws.proofs.Texts.{made, fork_piece}
use Rattle.chart_lowering_laws.proofs.Counting.{threads_in, branches_count, regions_count}
use Rattle.chart_lowering_laws.proofs.Finding.{MainPlace, main_whole, main_branch}
use Rattle.chart_lowering_laws.proofs.Rows.{Rowed, RegionRowed, side_states, side_regions, regions_rowed}
use Rattle.chart_lowering_laws.proofs.Marking.{regions_marked}
use Rattle.chart_lowering_laws.proofs.Walking.{Found, StateAt}
use Rattle.chart_lowering_laws.proofs.Whole.{chart_found}
use Rattle.chart_lowering_laws.proofs.ReadingOff.{rows_around}
use Rattle.chart_lowering_laws.proofs.Leading.{state_settles, ranks_fall}
use Rattle.chart_lowering_laws.proofs.Tree.{rows_there, state_found_at, tree_of, numbers_are}
use Rattle.chart_lowering_laws.proofs.Depths.{final_state, simple_state}
use Rattle.chart_lowering_laws.proofs.Opening.{OpenBeside, open_beside, regions_begin}
use Rattle.chart_lowering_laws.proofs.Supers.{super_state}
use Rattle.chart_lowering_laws.proofs.Forks.{forks_regions}

some_number : (regions : List Region) → regions ≢ [] → (r : ℕ) × Contains (region_numbers (map subtree_of_region regions) 1) r
some_number [] h = absurd (h refl)
some_number (r ∷ regions) h = (1, contains_head 1 (region_numbers (map subtree_of_region regions) (1 + (subtree_of_region r).regions)))

module _ (c : Chart) (p : Scl) (low : IsLowering c p) where
  abbrev pub k : Table
  k = table c

  abbrev pub root : Block
  root = (numbered p).root

  abbrev pub top : List ℕ
  top = region_numbers (map subtree_of_region c.regions) 1

  abbrev pub l : Layout
  l = layout c root

  abbrev pub parts : SubtreeRows
  parts = side_by_side (map subtree_of_region c.regions) whole

  pub keeps : KeepsScopes root
  keeps = keeps_scopes p low.rules

  pub settles : EachSettles root
  settles = no_loop_settles root keeps low.no_loop

  pub settling : Settling root
  settling = places_settle root (stay_within root keeps) settles

  pub rowed : Each RegionRowed c.regions
  rowed = regions_rowed c.variables depth_limit c.regions low.core.regions

  pieces_rowed : Each Rowed (map subtree_of_region c.regions)
  pieces_rowed = each_map Rowed subtree_of_region c.regions rowed

  pub many_states : length k.states ≡ states_in (map subtree_of_region c.regions)
  many_states = side_states (map subtree_of_region c.regions) pieces_rowed whole

  many_regions : length k.regions ≡ regions_in (map subtree_of_region c.regions)
  many_regions = side_regions (map subtree_of_region c.regions) pieces_rowed whole

  pub found : Found k (marks c) root keeps top 0 (length k.states) 1 (suc (length k.regions))
  found =
      subst (λ n. Found k (marks c) root keeps top 0 n 1 (suc (length k.regions))) (omega (arith, many_states))
      (subst (λ n. Found k (marks c) root keeps top 0 (0 + states_in (map subtree_of_region c.regions)) 1 n) (omega (arith, many_regions))
      (chart_found c p low.core low.body keeps))

  pub state_there : (s : ℕ) → s < length k.states → StateAt k (marks c) root keeps top s
  state_there s less = state_found_at k (marks c) root keeps top found s less

  tops : (r : ℕ) → Contains top r → IsRegionOf k r × ((region_at k r).around ≡ [])
  tops r h = (
    rows_there k c.regions rowed whole 0 refl (stand_all parts.regions) r h,
    rows_around k (marks c) root keeps top c.regions rowed whole 0 refl
        (stand_all parts.regions) r h,
  )

  pub tree : IsTree k l
  tree = tree_of k (marks c) root keeps top found tops

  pub stands : (s : ℕ) → s < length k.states → StandsThere k root l s
  stands s less = let x : StateAt k (marks c) root keeps top s = state_there s less in by x (out-State x.state).is_final refl (out-State x.state).regions refl
    where
      numbers_of : (x : StateAt k (marks c) root keeps top s) →
          (state_at k s).regions ≡ region_numbers (map subtree_of_region (out-State x.state).regions) x.at.region
      numbers_of x = numbers_are k (marks c) root keeps top found s x

      by : (x : StateAt k (marks c) root keeps top s) → (b : Bool) → (out-State x.state).is_final ≡ b → (rs : List Region) → (out-State x.state).regions ≡ rs →
          StandsThere k root l s
      by x true final rs regions = inr
          (inl (final_state k (marks c) root keeps top state_there settles tree s x
          (numbers_of x ∙ ap (λ rs. region_numbers (map subtree_of_region rs) x.at.region) (x.bare final).0) final))
      by x false final [] regions = inl (simple_state k (marks c) root keeps top state_there settles tree s x
          (numbers_of x ∙ ap (λ rs. region_numbers (map subtree_of_region rs) x.at.region) regions) final regions)
      by x false final (r ∷ rs) regions = inr (inr (super_state k (marks c) root keeps top state_there settles s x final r rs regions))

  -- ---- the first thread

  abbrev pub bodies : List (List Statement)
  bodies = branches (map low_of_region c.regions) 1

  abbrev pub first : Numbers
  first = record { node = 0; thread = 1; base = suc (in_row (pieces_of p.body)).counts.nodes; goto = 0 }

  abbrev pub last : ℕ
  last = 0 + (in_row (pieces_of p.body)).counts.nodes

  abbrev pub bs : Branches
  bs = branches_from (map (map piece_of) bodies) first

  pub root_is : root ≡ Fork 0 bs (End last)
  root_is = ap (λ xs. made xs first (End last)) low.body ∙ ap (λ (x : Piece). x.made first (End last)) (fork_piece bodies)

  pub first_place : MainPlace root keeps 0 (Fork 0 bs (End last))
  first_place = subst (MainPlace root keeps 0) root_is (main_whole root keeps)

  beside : OpenBeside k (marks c) root keeps top c.regions whole bs
  beside =
      open_beside k (marks c) root keeps top c.regions (regions_begin k (marks c) root keeps top c.variables depth_limit c.regions low.core.regions) rowed
      (regions_count c.variables depth_limit c.regions low.core.regions) (regions_marked c.variables depth_limit c.regions low.core.regions)
      whole 0 refl (stand_all parts.states) (stand_all parts.regions) 1 first (stand_all (marks c)) refl
      (λ u b h. main_branch root keeps 0 0 u bs b (End last) first_place h)

  is_root : IsRoot k root l
  is_root = record {
    node = 0;
    branches = bs;
    end = last;
    is = root_is;
    opened = beside.entered;
    opens = beside.opens;
    some = some_number c.regions low.core.some_region;
  }

  many_threads : (numbered p).threads ≡ suc (length k.regions)
  many_threads =
      let own : threads_in p.body ≡ threads_in (statement.Fork bodies ∷ []) = ap threads_in low.body in
      let fork : (piece_of (statement.Fork bodies)).counts.threads ≡ 0 + (all_branch_counts (map (map piece_of) bodies)).threads = ap (λ p. p.counts.threads)
      (fork_piece bodies) in
      let count : (all_branch_counts (map (map piece_of) bodies)).threads ≡ regions_in (map subtree_of_region c.regions) = branches_count c.regions 1
      (regions_count c.variables depth_limit c.regions low.core.regions) in
      omega (arith, own, fork, count, many_regions)

  pub chart_is_lowered : Lowers k (numbered p) l
  chart_is_lowered = record {
    variables = low.variables;
    threads = many_threads;
    tree = tree;
    root = is_root;
    states = stands;
    forks = forks_regions p low.rules k l tree is_root stands many_threads;
    leads = state_settles k (marks c) root keeps top state_there settling;
    falls = ranks_fall k (marks c) root keeps top state_there settles;
  }
