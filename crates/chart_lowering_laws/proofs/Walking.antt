-- Where the states and regions of a chart stand, in its table and in the text of its lowering: regions and states that
-- stand side by side.
use Rattle.std.proofs.Common.{◌≡◌, ℕ, suc, ◌+◌, ◌<◌, ◌≤◌, ◌⊎◌, inr, ⊎_elim, Bool, true, false, Some, List, [], ◌∷◌, map, length, slice_get}
use Rattle.std.proofs.Common.{unwrap_or, count_by, Contains, refl, sym, ap, subst, arith}
use Rattle.sc_text.proofs.EachItem.{Each}
use Rattle.scl_graph.proofs.Resolved.{pieces_map}
use Rattle.core_charts.specs.declared.region.Region.{Region}
use Rattle.core_charts.specs.declared.region.State.{State}
use Rattle.core_charts.specs.declared.region.Transition.{Transition}
use Rattle.core_charts.specs.declared.region.Region.TheOpen.{Region-F, State-F}
use Rattle.core_charts.specs.declared.region.Region.TheViews.{out-Region, out-State}
use Rattle.core_charts.specs.declared.region.Region.TheFolds.{fold_out-State}
use Rattle.core_charts.specs.Tests.{terminations, is_join}
use Rattle.chart_lowering_laws.specs.Layout.{IsRegionOf, InRegion}
use Rattle.core_charts.specs.Rules.{AreRegions, IsBareIfFinal, IsTransition, has_regions}
use Rattle.core_charts.specs.declared.features.Features.TheVariants as features
use Rattle.sc_graph.specs.declared.program.Variable.{Variable}
use Rattle.chart_machine.specs.declared.table.StateRow.{StateRow}
use Rattle.std.proofs.lemmas.Option.{slice_get_within}
use Rattle.tick_laws.proofs.Lists.{contains_head, contains_tail, contains_none, contains_cons}
use Rattle.chart_machine.specs.declared.table.Table.{Table}
use Rattle.chart_machine.specs.declared.table.TablePosition.{TablePosition}
use Rattle.chart_machine.specs.Table.{Subtree, state_at, region_at, region_numbers, states_in, regions_in, side_by_side, within, state_row, state_numbers}
use Rattle.chart_machine.specs.Table.{state_subtree, region_subtree, subtree_of_region, subtree_of_state}
use Rattle.chart_machine.specs.Table.{behind as behind_piece}
use Rattle.chart_machine.proofs.Outside.{within_or_past}
use Rattle.scl.specs.declared.statement.Statement.{Statement}
use Rattle.scl.specs.declared.statement.Statement.TheVariants as statement
use Rattle.scl.specs.Block.{Block, End, Fork, Branches}
use Rattle.scl.specs.Labels.{behind_label}
use Rattle.scl.specs.Places.{IsBranch, here, later}
use Rattle.scl.specs.Numbering.{Numbers, piece_of, pieces_of, in_row, beyond, thread_body, branches_from, branch_counts}
use Rattle.scl.specs.Numbering.{Piece as TextPiece, inside as inside_numbers}
use Rattle.scl_graph_laws.proofs.Segments.{StandAt, stand_from, stand_first, stand_second}
use Rattle.scl_graph_laws.proofs.Scopes.{KeepsScopes}
use Rattle.scl_graph_laws.proofs.Searching.{own_labels}
use Rattle.chart_lowering.specs.declared.targets.Targets.{Targets}
use Rattle.chart_lowering.specs.Lowering.{RegionPiece, StatePiece, label, label_name, behind, branches, labels_in, text_of}
use Rattle.chart_lowering.specs.Lowering.{region_piece as low_region, state_piece as low_state, piece_of_region as low_of_region}
use Rattle.chart_lowering.specs.Lowering.{piece_of_state as low_of_state}
use Rattle.chart_lowering_laws.proofs.Texts.{made, fork_piece}
use Rattle.chart_lowering_laws.proofs.Counting.{threads_in, label_none, CountsRegion}
use Rattle.chart_lowering_laws.proofs.Finding.{MainPlace, main_branch}
use Rattle.chart_lowering_laws.proofs.Passing.{pass_one}
use Rattle.chart_lowering_laws.proofs.Rows.{RegionRowed, open_state}
use Rattle.chart_lowering_laws.specs.Marks.{Mark, initial_among, RegionMarks, StateMarks, lows, marks_beside, region_marks, state_marks, marks_of_region}
use Rattle.chart_lowering_laws.specs.Marks.{second_of}
use Rattle.chart_lowering_laws.proofs.Marking.{marks_of_state, RegionMarked}

-- a state, and a region, with the lowerings of what is in them
abbrev pub low_open_state : State → State-F RegionPiece StatePiece
low_open_state s = record {
  name = (out-State s).name;
  is_initial = (out-State s).is_initial;
  is_final = (out-State s).is_final;
  regions = map low_of_region (out-State s).regions;
  transitions = (out-State s).transitions;
}

abbrev pub mark_open_state : State → State-F RegionMarks StateMarks
mark_open_state s = record {
  name = (out-State s).name;
  is_initial = (out-State s).is_initial;
  is_final = (out-State s).is_final;
  regions = map marks_of_region (out-State s).regions;
  transitions = (out-State s).transitions;
}

abbrev pub low_open_region : Region → Region-F RegionPiece StatePiece
low_open_region r = record { name = (out-Region r).name; states = map low_of_state (out-Region r).states }

-- numbers from n on
pub numbers_from : (ps : List Subtree) (n q : ℕ) → Contains (region_numbers ps n) q → n ≤ q
numbers_from [] n q h = absurd (contains_none q h)
numbers_from (p ∷ ps) n q h =
    ⊎_elim (λ same. let is : n ≡ q = same in omega (arith, is)) (λ later. let from : n + p.regions ≤ q = numbers_from ps (n + p.regions) q later in
    omega (arith, from)) (contains_cons n q (region_numbers ps (n + p.regions)) h)

-- some label stands in what is to be done
abbrev pub HasLabel : Block → Type 0
HasLabel b = (name : List ℕ) × (others : List (List ℕ)) × (own_labels b ≡ name ∷ others)

module _ (k : Table) (ms : List Mark) (root : Block) (keeps : KeepsScopes root) (top : List ℕ) where
  abbrev Main : ℕ → Block → Type 0
  Main t b = MainPlace root keeps t b

  -- the labels of these targets are those of the region's states, and of its end
  pub record Goes (q : ℕ) (around : List ℕ) (targets : Targets) : Type 0 where
    pub around_is : (region_at k q).around ≡ around
    pub states : (i u : ℕ) → slice_get (region_at k q).states i ≡ Some u →
        (m : Mark) × (slice_get ms u ≡ Some m) × (slice_get targets.states i ≡ Some (label_name m.label))
    pub end : (e : ℕ) × (behind_label root targets.end ≡ Some (End e))
    pub is_region : IsRegionOf k q
    pub own : (i u : ℕ) → slice_get (region_at k q).states i ≡ Some u → InRegion k q u
    pub initial : InRegion k q (initial_among ms (region_at k q).states)
    pub apart : (i j : ℕ) (name : List ℕ) → slice_get targets.states i ≡ Some name → slice_get targets.states j ≡ Some name → i ≡ j

  -- a state of a region of smaller number has this region
  pub record HeldBy (q : ℕ) : Type 0 where
    pub state : ℕ
    pub there : state < length k.states
    pub held : Contains (state_at k state).regions q
    pub less : (state_at k state).holder < q

  -- or the chart itself has it
  abbrev pub Held : ℕ → Type 0
  Held q = Contains top q ⊎ HeldBy q

  -- a state with its row in the table and its text
  pub record StateAt (s : ℕ) : Type 0 where
    pub state : State
    pub at : TablePosition
    pub is : at.state ≡ s
    pub row : slice_get k.states at.state ≡ Some
        (state_row (open_state state) at (side_by_side (map subtree_of_region (out-State state).regions) (within at)).entered)
    pub before : ℕ
    pub follows : at.region ≡ suc before
    pub less : at.holder < at.region
    pub listed : Contains (region_at k at.holder).states at.state
    pub variables : List Variable
    pub bare : IsBareIfFinal state
    pub levels : ℕ
    pub regions_rules : AreRegions features.Core variables levels (out-State state).regions
    pub one_join : count_by (λ t. is_join t.kind) (out-State state).transitions ≤ 1
    pub transitions : (i : ℕ) (t : Transition) → slice_get (out-State state).transitions i ≡ Some t →
        IsTransition features.Core variables (length (region_at k at.holder).states) (has_regions (out-State state).regions) t
    pub inside : StandAt k.regions before (side_by_side (map subtree_of_region (out-State state).regions) (within at)).regions
    pub rowed : Each RegionRowed (out-State state).regions
    pub targets : Targets
    pub goes : Goes at.holder at.around targets
    pub label : ℕ
    pub inside_states : StandAt k.states (suc at.state) (side_by_side (map subtree_of_region (out-State state).regions) (within at)).states
    pub inside_marks : StandAt ms (suc at.state) (marks_beside (map marks_of_region (out-State state).regions) (suc label))
    pub mark : slice_get ms at.state ≡ Some
        (record {
          is_initial = (out-State state).is_initial;
          label = label;
          second = second_of (out-State state).is_final
              (lows (map marks_of_region (out-State state).regions)) (out-State state).transitions label;
        })
    pub numbers : Numbers
    pub following : Block
    pub thread : numbers.thread ≡ at.region
    pub labelled : HasLabel following
    pub text : Main at.holder (made ((low_state (low_open_state state)).text targets label) numbers following)

  -- a region with its row and its text
  pub record RegionAt (q : ℕ) : Type 0 where
    pub region : Region
    pub at : TablePosition
    pub is : at.region ≡ q
    pub before : ℕ
    pub follows : at.region ≡ suc before
    pub held : Held at.region
    pub targets : Targets
    pub goes : Goes at.region at.around targets
    pub row : slice_get k.regions before ≡ Some (record {
      around = at.around;
      states = state_numbers
          (map subtree_of_state (out-Region region).states) at.state;
    })
    pub label : ℕ
    pub base : ℕ
    pub numbers : Numbers
    pub thread : numbers.thread ≡ suc at.region
    pub text : Main at.region (thread_body (in_row (pieces_of ((low_region (low_open_region region)).body label))) base numbers)

  -- all states and regions of these ranges
  pub record Found (lo hi low high : ℕ) : Type 0 where
    pub states : (s : ℕ) → lo ≤ s → s < hi → StateAt s
    pub regions : (q : ℕ) → low ≤ q → q < high → RegionAt q

  found_none : (lo low : ℕ) → Found lo (lo + 0) low (low + 0)
  found_none lo low = record { states = λ s a b. absurd (omega (arith, a, b)); regions = λ q a b. absurd (omega (arith, a, b)) }

  found_both : (a b c d e f : ℕ) → Found a b d e → Found b c e f → Found a c d f
  found_both a b c d e f x y = record {
    states = λ s lo hi. ⊎_elim (λ less. x.states s lo less) (λ more. y.states s more hi) (within_or_past s b);
    regions = λ q lo hi. ⊎_elim (λ less. x.regions q lo less) (λ more. y.regions q more hi) (within_or_past q e);
  }

  found_to : (a b c d e f : ℕ) → b ≡ e → d ≡ f → Found a b c d → Found a e c f
  found_to a b c d e f x y h = subst (λ z. Found a z c f) x (subst (λ z. Found a b c z) y h)

  -- wherever the region's rows and its text stand, all in it are found
  abbrev pub WalksRegionBy : Subtree → RegionPiece → RegionMarks → Type 0
  WalksRegionBy p low m =
      (at : TablePosition) (before : ℕ) → at.region ≡ suc before → Held at.region → StandAt k.states at.state (p.parts at).states →
      StandAt k.regions before (p.parts at).regions →
      (n base : ℕ) (nums : Numbers) → StandAt ms at.state (m.marks n) → nums.thread ≡ suc at.region →
      Main at.region (thread_body (in_row (pieces_of (low.body n))) base nums) →
      Found at.state (at.state + p.states) at.region (at.region + p.regions)

  abbrev pub WalksRegion : Region → Type 0
  WalksRegion r = WalksRegionBy (subtree_of_region r) (low_of_region r) (marks_of_region r)

  abbrev WalksStateBy : ℕ → Subtree → StatePiece → StateMarks → Type 0
  WalksStateBy size p low m =
      (at : TablePosition) (before : ℕ) → at.region ≡ suc before → at.holder < at.region → length (region_at k at.holder).states ≡ size →
      Contains (region_at k at.holder).states at.state → StandAt k.states at.state (p.parts at).states → StandAt k.regions before (p.parts at).regions →
      (targets : Targets) (n : ℕ) (nums : Numbers) (following : Block) → HasLabel following → Goes at.holder at.around targets →
      StandAt ms at.state (m.marks n) → nums.thread ≡ at.region → Main at.holder (made (low.text targets n) nums following) →
      Found at.state (at.state + p.states) at.region (at.region + p.regions)

  abbrev pub WalksState : ℕ → State → Type 0
  WalksState size s = WalksStateBy size (subtree_of_state s) (low_of_state s) (marks_of_state s)

  -- the regions of a superstate, or of the chart, and the branches of its fork
  abbrev pub WalksSide : List Region → Type 0
  WalksSide regions =
      (at : TablePosition) (before : ℕ) → at.region ≡ suc before → ((q : ℕ) → Contains (region_numbers (map subtree_of_region regions) at.region) q → Held q) →
      StandAt k.states at.state (side_by_side (map subtree_of_region regions) at).states →
      StandAt k.regions before (side_by_side (map subtree_of_region regions) at).regions →
      (n : ℕ) (nums : Numbers) → StandAt ms at.state (marks_beside (map marks_of_region regions) n) → nums.thread ≡ at.region →
      ((u : ℕ) (b : Block) → IsBranch (branches_from (map (map piece_of) (branches (map low_of_region regions) n)) nums) u b → Main u b) →
      Found at.state (at.state + states_in (map subtree_of_region regions)) at.region (at.region + regions_in (map subtree_of_region regions))

  pub walk_side : (regions : List Region) → Each WalksRegion regions → Each RegionRowed regions → Each CountsRegion regions → Each RegionMarked regions →
      WalksSide regions
  walk_side [] walks rowed counts marked at before follows holds states rows n nums marks thread inside = found_none at.state at.region
  walk_side (r ∷ regions) walks rowed counts marked at before follows holds states rows n nums marks thread inside =
      let p : Subtree = subtree_of_region r in
      let ps : List Subtree = map subtree_of_region regions in
      let body : List Statement = (low_of_region r).body n in
      let own_marks : List Mark = (marks_of_region r).marks n in
      let more_marks : List Mark = marks_beside (map marks_of_region regions) (n + (marks_of_region r).low.labels) in
      let many : length own_marks ≡ p.states = marked.0.long n in
      let b : List TextPiece = map piece_of body in
      let same : in_row (pieces_of body) ≡ in_row b = ap in_row (pieces_map body) in
      let count : suc (threads_in body) ≡ p.regions = counts.0 n in
      let count_b : (in_row b).counts.threads ≡ threads_in body = ap (λ x. x.counts.threads) (sym same) in
      let here_place : Main nums.thread (thread_body (in_row b) nums.base (inside_numbers nums (in_row b).counts)) =
      inside nums.thread (thread_body (in_row b) nums.base (inside_numbers nums (in_row b).counts))
      (here nums.thread (thread_body (in_row b) nums.base (inside_numbers nums (in_row b).counts))
      (branches_from (map (map piece_of) (branches (map low_of_region regions) (n + (low_of_region r).labels)))
      (beyond nums (branch_counts (in_row b).counts)))) in
      let first : Found at.state (at.state + p.states) at.region (at.region + p.regions) =
      walks.0 at before follows (holds at.region (contains_head at.region (region_numbers ps (at.region + p.regions))))
      (stand_first k.states at.state (p.parts at).states (side_by_side ps (behind_piece p at)).states states)
      (stand_first k.regions before (p.parts at).regions (side_by_side ps (behind_piece p at)).regions rows)
      n nums.base (inside_numbers nums (in_row b).counts) (stand_first ms at.state own_marks more_marks marks) (ap suc thread)
      (subst (λ t. Main t (thread_body (in_row (pieces_of body)) nums.base (inside_numbers nums (in_row b).counts))) thread
      (subst (λ x. Main nums.thread (thread_body x nums.base (inside_numbers nums (in_row b).counts))) (sym same) here_place)) in
      let long : length (p.parts at).states ≡ p.states = rowed.0.states at in
      let wide : length (p.parts at).regions ≡ p.regions = rowed.0.regions at in
      let rest : Found (at.state + p.states) ((at.state + p.states) + states_in ps) (at.region + p.regions) ((at.region + p.regions) + regions_in ps) =
      walk_side regions walks.1 rowed.1 counts.1 marked.1 (behind_piece p at) (before + p.regions) (omega (arith, follows))
      (λ q h. holds q (contains_tail at.region q (region_numbers ps (at.region + p.regions)) h))
      (stand_from k.states (at.state + length (p.parts at).states) (at.state + p.states) (side_by_side ps (behind_piece p at)).states (omega (arith, long))
      (stand_second k.states at.state (p.parts at).states (side_by_side ps (behind_piece p at)).states states))
      (stand_from k.regions (before + length (p.parts at).regions) (before + p.regions) (side_by_side ps (behind_piece p at)).regions (omega (arith, wide))
      (stand_second k.regions before (p.parts at).regions (side_by_side ps (behind_piece p at)).regions rows))
      (n + (low_of_region r).labels) (beyond nums (branch_counts (in_row b).counts))
      (subst (λ x. StandAt ms (at.state + p.states) (marks_beside (map marks_of_region regions) (n + x.labels))) marked.0.same
      (stand_from ms (at.state + length own_marks) (at.state + p.states) more_marks (omega (arith, many))
      (stand_second ms at.state own_marks more_marks marks)))
      (omega (arith, thread, count, count_b))
      (λ u c h. inside u c (later nums.thread (thread_body (in_row b) nums.base (inside_numbers nums (in_row b).counts))
      (branches_from (map (map piece_of) (branches (map low_of_region regions) (n + (low_of_region r).labels)))
      (beyond nums (branch_counts (in_row b).counts))) u c h)) in
      found_to at.state ((at.state + p.states) + states_in ps) at.region ((at.region + p.regions) + regions_in ps) (at.state + states_in (p ∷ ps))
      (at.region + regions_in (p ∷ ps)) (omega arith) (omega arith)
      (found_both at.state (at.state + p.states) ((at.state + p.states) + states_in ps) at.region (at.region + p.regions)
      ((at.region + p.regions) + regions_in ps) first rest)

  -- what is inside a state
  inside_state : (is_final : Bool) (regions : List Region) (all : List Transition) → (is_final ≡ true → regions ≡ []) → WalksSide regions →
      (at : TablePosition) (before : ℕ) → at.region ≡ suc before → ((q : ℕ) → Contains (region_numbers (map subtree_of_region regions) at.region) q → Held q) →
      StandAt k.states (suc at.state) (side_by_side (map subtree_of_region regions) (within at)).states →
      StandAt k.regions before (side_by_side (map subtree_of_region regions) (within at)).regions →
      (targets : Targets) (n : ℕ) (nums : Numbers) (following : Block) → StandAt ms (suc at.state) (marks_beside (map marks_of_region regions) (suc n)) →
      nums.thread ≡ at.region → Main at.holder (made (text_of is_final (map low_of_region regions) all targets n) nums following) →
      Found (suc at.state) (suc at.state + states_in (map subtree_of_region regions)) at.region (at.region + regions_in (map subtree_of_region regions))
  inside_state true regions all bare walks at before follows holds states rows targets n nums following marks thread main =
      subst (λ rs. Found (suc at.state) (suc at.state + states_in (map subtree_of_region rs)) at.region (at.region + regions_in (map subtree_of_region rs)))
      (sym (bare refl)) (found_none (suc at.state) at.region)
  inside_state false [] all bare walks at before follows holds states rows targets n nums following marks thread main = found_none (suc at.state) at.region
  inside_state false (r ∷ regions) all bare walks at before follows holds states rows targets n nums following marks thread main =
      let whole : List Region = r ∷ regions in
      let bodies : List (List Statement) = branches (map low_of_region whole) (suc n) in
      let rest : List Statement = behind targets (terminations all) (suc n + labels_in (map low_of_region whole)) in
      let nums_1 : Numbers = beyond nums (piece_of (label n)).counts in
      let none : (piece_of (label n)).counts.threads ≡ 0 = label_none (label_name n) in
      let at_fork : Main at.holder (made (statement.Fork bodies ∷ rest) nums_1 following) = pass_one root keeps at.holder (label n) nums
      (made (statement.Fork bodies ∷ rest) nums_1 following) main in
      let whole_piece : TextPiece = piece_of (statement.Fork bodies) in
      let bs : Branches = branches_from (map (map piece_of) bodies) nums_1 in
      let forks : (more : Block) × Main at.holder (Fork nums_1.node bs more) = by_fork bodies rest nums_1 following at_fork in
      walks (within at) before follows holds states rows (suc n) nums_1 marks (omega (arith, thread, none))
      (λ u b h. main_branch root keeps at.holder nums_1.node u bs b forks.0 forks.1 h)
    where
      by_fork : (bodies : List (List Statement)) (rest : List Statement) (nums_1 : Numbers) (following : Block) →
          Main at.holder (made (statement.Fork bodies ∷ rest) nums_1 following) →
          (more : Block) × Main at.holder (Fork nums_1.node (branches_from (map (map piece_of) bodies) nums_1) more)
      by_fork bodies rest nums_1 following m = (
        made rest (beyond nums_1 (Rattle.scl.specs.Numbering.piece
            (Rattle.scl.specs.declared.statement.Statement.TheOpen.Fork (map (map piece_of) bodies))).counts) following,
        subst (λ (x : TextPiece). Main at.holder (x.made nums_1 (made rest (beyond nums_1 x.counts) following))) (fork_piece bodies) m,
      )

  pub walk_state : (size : ℕ) (variables : List Variable) (levels : ℕ) (s : State) → AreRegions features.Core variables levels (out-State s).regions →
      IsBareIfFinal s → count_by (λ t. is_join t.kind) (out-State s).transitions ≤ 1 →
      ((i : ℕ) (t : Transition) → slice_get (out-State s).transitions i ≡ Some t → IsTransition features.Core variables size
      (has_regions (out-State s).regions) t) →
      Each RegionRowed (out-State s).regions → WalksSide (out-State s).regions → WalksState size s
  walk_state size variables levels s regions_rules bare one_join transitions rowed walks =
      subst (λ p. WalksStateBy size p (low_of_state s) (marks_of_state s)) (sym (fold_out-State Subtree Subtree region_subtree state_subtree s))
      (subst (λ low. WalksStateBy size (state_subtree (open_state s)) low (marks_of_state s))
      (sym (fold_out-State RegionPiece StatePiece low_region low_state s))
      (subst (λ m. WalksStateBy size (state_subtree (open_state s)) (low_state (low_open_state s)) m)
      (sym (fold_out-State RegionMarks StateMarks region_marks state_marks s)) opened))
    where
      opened : WalksStateBy size (state_subtree (open_state s)) (low_state (low_open_state s)) (state_marks (mark_open_state s))
      opened at before follows less sized listed states rows targets n nums following labelled goes marks thread main =
          let regions : List Region = (out-State s).regions in
          let number : (state_at k at.state).regions ≡ region_numbers (map subtree_of_region regions) at.region =
          ap (λ o. (unwrap_or {T = StateRow} o (state_at (record k { states = [] }) 0)).regions) states.0 in
          let holder : (state_at k at.state).holder ≡ at.holder = ap (λ o. (unwrap_or {T = StateRow} o (state_at (record k { states = [] }) 0)).holder) states.0
          in
          let there : at.state < length k.states = slice_get_within k.states at.state
          (state_row (open_state s) at (side_by_side (map subtree_of_region regions) (within at)).entered) states.0 in
          let holds : (q : ℕ) → Contains (region_numbers (map subtree_of_region regions) at.region) q → Held q = λ q h.
          let from : at.region ≤ q = numbers_from (map subtree_of_region regions) at.region q h in
          inr (record {
            state = at.state;
            there = there;
            held = subst (λ xs. Contains xs q) (sym number) h;
            less = subst (λ n. n < q) (sym holder)
                (omega (arith, from, less));
          }) in
          let inner : Found (suc at.state) (suc at.state + states_in (map subtree_of_region regions)) at.region
          (at.region + regions_in (map subtree_of_region regions)) =
          inside_state (out-State s).is_final regions (out-State s).transitions (λ final. (bare final).0) walks at before follows holds states.1 rows targets n
          nums following marks.1 thread main in
          let own : StateAt at.state = record {
            state = s;
            at = at;
            is = refl;
            row = states.0;
            before = before;
            follows = follows;
            less = less;
            listed = listed;
            variables = variables;
            bare = bare;
            levels = levels;
            regions_rules = regions_rules;
            inside_states = states.1;
            inside_marks = marks.1;
            one_join = one_join;
            transitions = λ i t is. subst (λ n. IsTransition features.Core variables n (has_regions (out-State s).regions) t) (sym sized) (transitions i t is);
            inside = rows;
            rowed = rowed;
            targets = targets;
            goes = goes;
            label = n;
            mark = marks.0;
            numbers = nums;
            following = following;
            thread = thread;
            labelled = labelled;
            text = main;
          } in
          record {
            states = λ q lo hi. ⊎_elim (λ less. subst StateAt (omega (arith, lo, less)) own) (λ more. inner.states q more (omega (arith, hi)))
                (within_or_past q (suc at.state));
            regions = inner.regions;
          }
