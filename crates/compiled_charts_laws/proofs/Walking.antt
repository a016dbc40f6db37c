-- Where the states of a chart stand in the text of its lowering, and in the row of nodes to states.
use Rattle.std.proofs.Common.{◌≡◌, ℕ, suc, ◌+◌, ◌<◌, ◌≤◌, ⊎_elim, Bool, true, false, if◌then◌else◌, Option, Some, List, [], ◌∷◌, ◌++◌, map, length}
use Rattle.std.proofs.Common.{slice_get, refl, sym, ap, subst, ◌∙◌, arith}
use Rattle.sc_text.proofs.EachItem.{Each}
use Rattle.scl_graph.proofs.Resolved.{pieces_map}
use Rattle.core_charts.specs.declared.region.Region.{Region}
use Rattle.core_charts.specs.declared.region.State.{State}
use Rattle.core_charts.specs.declared.region.Transition.{Transition}
use Rattle.core_charts.specs.declared.region.Region.TheOpen.{State-F}
use Rattle.core_charts.specs.declared.region.Region.TheViews.{out-State}
use Rattle.core_charts.specs.declared.region.Region.TheFolds.{fold_out-State}
use Rattle.core_charts.specs.Rules.{IsBareIfFinal}
use Rattle.core_charts.specs.Tests.{terminations}
use Rattle.chart_machine.specs.Table as table
use Rattle.chart_machine.proofs.Outside.{within_or_past}
use Rattle.scl.specs.declared.statement.Statement.{Statement}
use Rattle.scl.specs.declared.statement.Statement.TheVariants as statement
use Rattle.scl.specs.Block.{Block, Fork}
use Rattle.scl.specs.Places.{IsBranch, here, later}
use Rattle.scl.specs.Numbering.{Counts, Numbers, Piece, piece_of, in_row, beyond, thread_body, branches_from, branch_counts}
use Rattle.scl.specs.Numbering.{inside}
use Rattle.scl_graph_laws.proofs.Segments.{StandAt, stand_from, stand_first, stand_second}
use Rattle.scl_graph_laws.proofs.Scopes.{KeepsScopes}
use Rattle.chart_lowering.specs.declared.targets.Targets.{Targets}
use Rattle.chart_lowering.specs.Lowering.{RegionPiece, StatePiece, label, label_name, behind, branches, labels_in, text_of, texts, is_wanted}
use Rattle.chart_lowering.specs.Lowering.{region_piece as low_region, state_piece as low_state, piece_of_region as low_of_region}
use Rattle.chart_lowering.specs.Lowering.{piece_of_state as low_of_state}
use Rattle.node_states.specs.Nodes as row
use Rattle.chart_lowering_laws.specs.Marks.{Mark, RegionMarks, StateMarks, lows, marks_beside}
use Rattle.chart_lowering_laws.specs.Marks.{marks_among, region_marks, state_marks, marks_of_region, second_of}
use Rattle.chart_lowering_laws.proofs.Texts.{made, label_piece, fork_piece}
use Rattle.chart_lowering_laws.proofs.Finding.{MainPlace, main_branch}
use Rattle.chart_lowering_laws.proofs.Passing.{pass_one}
use Rattle.chart_lowering_laws.proofs.Marking.{marks_of_state, RegionMarked, StateMarked}
use Rattle.chart_lowering_laws.proofs.Walking.{low_open_state, mark_open_state}
use Rattle.compiled_charts_laws.proofs.NodeCounts.{Has, counts_of}
use Rattle.compiled_charts_laws.proofs.StateCounts.{RegionHas, StateHas}

-- a state with what the row has for the regions in it
abbrev row_open_state : State → State-F row.RegionPiece row.StatePiece
row_open_state s = record {
  name = (out-State s).name;
  is_initial = (out-State s).is_initial;
  is_final = (out-State s).is_final;
  regions = map row.piece_of_region (out-State s).regions;
  transitions = (out-State s).transitions;
}

-- past statements, with the numbers of the nodes behind them
pub record PassedNodes (root : Block) (keeps : KeepsScopes root) (t : ℕ) (xs ys : List Statement) (at : Numbers) (k : Block) : Type 0 where
  pub next : Numbers
  pub node : next.node ≡ at.node + (counts_of xs).nodes
  pub base : next.base ≡ at.base + (counts_of xs).lower
  pub place : MainPlace root keeps t (made ys next k)

pub pass_nodes : (root : Block) (keeps : KeepsScopes root) (t : ℕ) (xs ys : List Statement) (at : Numbers) (k : Block) →
    MainPlace root keeps t (made (xs ++ ys) at k) → PassedNodes root keeps t xs ys at k
pass_nodes root keeps t [] ys at k m = record { next = at; node = omega arith; base = omega arith; place = m }
pass_nodes root keeps t (x ∷ xs) ys at k m =
    let rest : PassedNodes root keeps t xs ys (beyond at (piece_of x).counts) k = pass_nodes root keeps t xs ys (beyond at (piece_of x).counts) k
    (pass_one root keeps t x at (made (xs ++ ys) (beyond at (piece_of x).counts) k) m) in
    let node : rest.next.node ≡ (at.node + (piece_of x).counts.nodes) + (counts_of xs).nodes = rest.node in
    let base : rest.next.base ≡ (at.base + (piece_of x).counts.lower) + (counts_of xs).lower = rest.base in
    record { next = rest.next; node = omega (arith, node); base = omega (arith, base); place = rest.place }

-- and in front of them, whatever follows
pub in_front : (root : Block) (keeps : KeepsScopes root) (t : ℕ) (xs ys : List Statement) (at : Numbers) (k : Block) →
    MainPlace root keeps t (made (xs ++ ys) at k) → (more : Block) × MainPlace root keeps t (made xs at more)
in_front root keeps t xs ys at k m = let s : _ = same xs at in (s.0, subst (MainPlace root keeps t) s.1 m)
  where
    same : (xs : List Statement) (at : Numbers) → (more : Block) × (made (xs ++ ys) at k ≡ made xs at more)
    same [] at = (made ys at k, refl)
    same (x ∷ xs) at = let rest : _ = same xs (beyond at (piece_of x).counts) in (rest.0, ap ((piece_of x).made at) rest.1)

module _ (root : Block) (keeps : KeepsScopes root) (ms : List Mark) (nodes : List (Option ℕ)) where
  abbrev Main : ℕ → Block → Type 0
  Main t b = MainPlace root keeps t b

  -- a state with its text and its nodes
  pub record StateAt (s : ℕ) : Type 0 where
    pub state : State
    pub bare : IsBareIfFinal state
    pub marked : Each RegionMarked (out-State state).regions
    pub thread : ℕ
    pub targets : Targets
    pub label : ℕ
    pub mark : slice_get ms s ≡ Some
        (record {
          is_initial = (out-State state).is_initial;
          label = label;
          second = second_of (out-State state).is_final (lows (map marks_of_region (out-State state).regions)) (out-State state).transitions label;
        })
    pub numbers : Numbers
    pub following : Block
    pub text : Main thread (made ((low_state (low_open_state state)).text targets label) numbers following)
    pub own : StandAt nodes numbers.node
        (row.own_of (out-State state).is_final (map row.piece_of_region (out-State state).regions) (out-State state).transitions s)

  -- all states of a range
  abbrev pub AllAt : ℕ → ℕ → Type 0
  AllAt lo hi = (s : ℕ) → lo ≤ s → s < hi → StateAt s

  none_at : (lo : ℕ) → AllAt lo (lo + 0)
  none_at lo s a b = absurd (omega (arith, a, b))

  both_at : (a b c : ℕ) → AllAt a b → AllAt b c → AllAt a c
  both_at a b c x y s lo hi = ⊎_elim (λ less. x s lo less) (λ more. y s more hi) (within_or_past s b)

  all_to : (a b c : ℕ) → b ≡ c → AllAt a b → AllAt a c
  all_to a b c same x = subst (AllAt a) same x

  -- wherever a region's marks, its nodes and its text stand, all states in it are found
  abbrev pub WalksRegionBy : row.RegionPiece → RegionPiece → RegionMarks → Type 0
  WalksRegionBy p low m =
      (number n : ℕ) (at : Numbers) → StandAt ms number (m.marks n) → StandAt nodes at.base (p.nodes number) →
      Main at.thread (thread_body (in_row (map piece_of (low.body n))) at.base (inside at (in_row (map piece_of (low.body n))).counts)) →
      AllAt number (number + p.states)

  abbrev pub WalksRegion : Region → Type 0
  WalksRegion r = WalksRegionBy (row.piece_of_region r) (low_of_region r) (marks_of_region r)

  abbrev WalksStateBy : row.StatePiece → StatePiece → StateMarks → Type 0
  WalksStateBy p low m =
      (number n t : ℕ) (targets : Targets) (at : Numbers) (following : Block) → StandAt ms number (m.marks n) → StandAt nodes at.node (p.own number) →
      StandAt nodes at.base (p.below number) → Main t (made (low.text targets n) at following) → AllAt number (number + p.states)

  abbrev pub WalksState : State → Type 0
  WalksState s = WalksStateBy (row.piece_of_state s) (low_of_state s) (marks_of_state s)

  -- the regions of a superstate, or of the chart, and the branches of its fork
  abbrev pub WalksSide : List Region → Type 0
  WalksSide regions =
      (number n : ℕ) (at : Numbers) → StandAt ms number (marks_beside (map marks_of_region regions) n) →
      StandAt nodes at.base (row.beside (map row.piece_of_region regions) number) →
      ((u : ℕ) (b : Block) → IsBranch (branches_from (map (map piece_of) (branches (map low_of_region regions) n)) at) u b → Main u b) →
      AllAt number (number + row.states_in (map row.piece_of_region regions))

  pub walk_side : (regions : List Region) → Each WalksRegion regions → Each RegionHas regions → Each RegionMarked regions → WalksSide regions
  walk_side [] walks has marked number n at marks own inner = none_at number
  walk_side (r ∷ regions) walks has marked number n at marks own inner =
      let p : row.RegionPiece = row.piece_of_region r in
      let ps : List row.RegionPiece = map row.piece_of_region regions in
      let own_marks : List Mark = (marks_of_region r).marks n in
      let more_marks : List Mark = marks_beside (map marks_of_region regions) (n + (marks_of_region r).low.labels) in
      let body : List Statement = (low_of_region r).body n in
      let b : Piece = in_row (map piece_of body) in
      let rest : List (List Statement) = branches (map low_of_region regions) (n + (low_of_region r).labels) in
      let next : Numbers = beyond at (branch_counts b.counts) in
      let same : b.counts ≡ counts_of body = ap (λ ps. (in_row ps).counts) (sym (pieces_map body)) in
      let nodes_same : b.counts.nodes ≡ (counts_of body).nodes = ap (λ (c : Counts). c.nodes) same in
      let lower_same : b.counts.lower ≡ (counts_of body).lower = ap (λ (c : Counts). c.lower) same in
      let many : suc (counts_of body).nodes + (counts_of body).lower ≡ length (p.nodes number) = has.0.nodes n number in
      let states : length own_marks ≡ (table.subtree_of_region r).states = marked.0.long n in
      let states_too : p.states ≡ (table.subtree_of_region r).states = has.0.states in
      let first : AllAt number (number + p.states) =
      walks.0 number n at (stand_first ms number own_marks more_marks marks)
      (stand_first nodes at.base (p.nodes number) (row.beside ps (number + p.states)) own)
      (inner at.thread (thread_body b at.base (inside at b.counts))
      (here at.thread (thread_body b at.base (inside at b.counts)) (branches_from (map (map piece_of) rest) next))) in
      let others : AllAt (number + p.states) ((number + p.states) + row.states_in ps) =
      walk_side regions walks.1 has.1 marked.1 (number + p.states) (n + (low_of_region r).labels) next
      (subst (λ x. StandAt ms (number + p.states) (marks_beside (map marks_of_region regions) (n + x.labels))) marked.0.same
      (stand_from ms (number + length own_marks) (number + p.states) more_marks (omega (arith, states, states_too))
      (stand_second ms number own_marks more_marks marks)))
      (stand_from nodes (at.base + length (p.nodes number)) next.base (row.beside ps (number + p.states)) (omega (arith, many, nodes_same, lower_same))
      (stand_second nodes at.base (p.nodes number) (row.beside ps (number + p.states)) own))
      (λ u c h. inner u c (later at.thread (thread_body b at.base (inside at b.counts)) (branches_from (map (map piece_of) rest) next) u c h)) in
      all_to number ((number + p.states) + row.states_in ps) (number + row.states_in (p ∷ ps)) (omega arith)
      (both_at number (number + p.states) ((number + p.states) + row.states_in ps) first others)

  -- what is inside a state
  inside_state : (is_final : Bool) (regions : List Region) (all : List Transition) → (is_final ≡ true → regions ≡ []) → WalksSide regions →
      (number n t : ℕ) (targets : Targets) (at : Numbers) (following : Block) → StandAt ms (suc number) (marks_beside (map marks_of_region regions) (suc n)) →
      StandAt nodes at.base (row.below_of is_final (map row.piece_of_region regions) number) →
      Main t (made (text_of is_final (map low_of_region regions) all targets n) at following) →
      AllAt (suc number) (suc number + row.states_in (map row.piece_of_region regions))
  inside_state true regions all bare walks number n t targets at following marks below main =
      subst (λ rs. AllAt (suc number) (suc number + row.states_in (map row.piece_of_region rs))) (sym (bare refl)) (none_at (suc number))
  inside_state false [] all bare walks number n t targets at following marks below main = none_at (suc number)
  inside_state false (r ∷ regions) all bare walks number n t targets at following marks below main =
      let whole : List Region = r ∷ regions in
      let bodies : List (List Statement) = branches (map low_of_region whole) (suc n) in
      let rest : List Statement = behind targets (terminations all) (suc n + labels_in (map low_of_region whole)) in
      let next : Numbers = beyond at (piece_of (label n)).counts in
      let none : (piece_of (label n)).counts.lower ≡ 0 = ap (λ p. p.counts.lower) (label_piece (label_name n)) in
      let at_fork : Main t (made (statement.Fork bodies ∷ rest) next following) = pass_one root keeps t (label n) at
      (made (statement.Fork bodies ∷ rest) next following) main in
      let forks : (more : Block) × Main t (Fork next.node (branches_from (map (map piece_of) bodies) next) more) = (
        made rest (beyond next (Rattle.scl.specs.Numbering.piece
            (Rattle.scl.specs.declared.statement.Statement.TheOpen.Fork (map (map piece_of) bodies))).counts) following,
        subst (λ (x : Piece). Main t (x.made next (made rest (beyond next x.counts) following))) (fork_piece bodies) at_fork,
      ) in
      walks (suc number) (suc n) next marks
      (stand_from nodes at.base next.base (row.beside (map row.piece_of_region whole) (suc number)) (omega (arith, none)) below)
      (λ u b h. main_branch root keeps t next.node u (branches_from (map (map piece_of) bodies) next) b forks.0 forks.1 h)

  pub walk_state : (s : State) → IsBareIfFinal s → Each RegionMarked (out-State s).regions → WalksSide (out-State s).regions → WalksState s
  walk_state s bare marked walks =
      subst (λ p. WalksStateBy p (low_of_state s) (marks_of_state s)) (sym (fold_out-State row.RegionPiece row.StatePiece row.region_piece row.state_piece s))
      (subst (λ low. WalksStateBy (row.state_piece (row_open_state s)) low (marks_of_state s))
      (sym (fold_out-State RegionPiece StatePiece low_region low_state s))
      (subst (λ m. WalksStateBy (row.state_piece (row_open_state s)) (low_state (low_open_state s)) m)
      (sym (fold_out-State RegionMarks StateMarks region_marks state_marks s)) opened))
    where
      opened : WalksStateBy (row.state_piece (row_open_state s)) (low_state (low_open_state s)) (state_marks (mark_open_state s))
      opened number n t targets at following marks own below main =
          let inner : AllAt (suc number) (suc number + row.states_in (map row.piece_of_region (out-State s).regions)) =
          inside_state (out-State s).is_final (out-State s).regions (out-State s).transitions (λ final. (bare final).0) walks number n t targets at following
          marks.1 below main in
          let own_state : StateAt number = record {
            state = s;
            bare = bare;
            marked = marked;
            thread = t;
            targets = targets;
            label = n;
            mark = marks.0;
            numbers = at;
            following = following;
            text = main;
            own = own;
          } in
          λ q lo hi. ⊎_elim (λ less. subst StateAt (omega (arith, lo, less)) own_state) (λ more. inner q more (omega (arith, hi)))
          (within_or_past q (suc number))

  -- of the states of a region those that are wanted
  abbrev pub AllWanted : Bool → List State → ℕ → Type 0
  AllWanted wanted [] number = Unit {0}
  AllWanted wanted (s ∷ states) number =
      (is_wanted wanted (low_of_state s).is_initial ≡ true → AllAt number (number + (row.piece_of_state s).states))
      × AllWanted wanted states (number + (row.piece_of_state s).states)

  -- one of them, and those behind it
  module _ (wanted : Bool) (s : State) (states : List State) (walks : WalksState s) (has : StateHas s) (marked : StateMarked s) (number t n : ℕ) (ns : List ℕ)
      (targets : Targets) (at : Numbers) (following : Block)
      (marks : StandAt ms number ((marks_of_state s).marks n ++ marks_among (map marks_of_state states) ns)) where
    abbrev p : row.StatePiece
    p = row.piece_of_state s

    abbrev ps : List row.StatePiece
    ps = map row.piece_of_state states

    abbrev text : List Statement
    text = (low_of_state s).text targets n

    abbrev rest : List Statement
    rest = texts wanted targets (map low_of_state states) ns

    own_marks : StandAt ms number ((marks_of_state s).marks n)
    own_marks = stand_first ms number ((marks_of_state s).marks n) (marks_among (map marks_of_state states) ns) marks

    more_marks : StandAt ms (number + p.states) (marks_among (map marks_of_state states) ns)
    more_marks =
        let many : length ((marks_of_state s).marks n) ≡ (table.subtree_of_state s).states = marked.long n in
        let same : p.states ≡ (table.subtree_of_state s).states = has.states in
        stand_from ms (number + length ((marks_of_state s).marks n)) (number + p.states) (marks_among (map marks_of_state states) ns)
        (omega (arith, many, same))
        (stand_second ms number ((marks_of_state s).marks n) (marks_among (map marks_of_state states) ns) marks)

    -- what holds of those behind it, wherever they stand
    abbrev WalksMore : Type 0
    WalksMore = (next : Numbers) → StandAt ms (number + p.states) (marks_among (map marks_of_state states) ns) →
        StandAt nodes next.node (row.own_among wanted ps (number + p.states)) → StandAt nodes next.base (row.below_among wanted ps (number + p.states)) →
        Main t (made rest next following) → AllWanted wanted states (number + p.states)

    one_wanted : WalksMore → (b : Bool) → is_wanted wanted (low_of_state s).is_initial ≡ b →
        StandAt nodes at.node ((if b then p.own number else []) ++ row.own_among wanted ps (number + p.states)) →
        StandAt nodes at.base ((if b then p.below number else []) ++ row.below_among wanted ps (number + p.states)) →
        Main t (made ((if b then text else []) ++ rest) at following) → AllWanted wanted (s ∷ states) number
    one_wanted more false is own below main = (
      λ asked. absurd (let clash : false ≡ true = sym is ∙ asked in cc),
      more at more_marks own below main,
    )
    one_wanted more true is own below main =
        let passed : PassedNodes root keeps t text rest at following = pass_nodes root keeps t text rest at following main in
        let front : (more : Block) × Main t (made text at more) = in_front root keeps t text rest at following main in
        let counted : Has text (length (p.own number)) (length (p.below number)) = has.nodes targets n number in
        let nodes_are : (counts_of text).nodes ≡ length (p.own number) = counted.nodes in
        let lower_are : (counts_of text).lower ≡ length (p.below number) = counted.lower in
        let node : passed.next.node ≡ at.node + (counts_of text).nodes = passed.node in
        let base : passed.next.base ≡ at.base + (counts_of text).lower = passed.base in (
          λ asked. walks number n t targets at front.0 own_marks
              (stand_first nodes at.node (p.own number) (row.own_among wanted ps (number + p.states)) own)
              (stand_first nodes at.base (p.below number) (row.below_among wanted ps (number + p.states)) below) front.1,
          more passed.next more_marks
              (stand_from nodes (at.node + length (p.own number)) passed.next.node (row.own_among wanted ps (number + p.states))
              (omega (arith, node, nodes_are))
              (stand_second nodes at.node (p.own number) (row.own_among wanted ps (number + p.states)) own))
              (stand_from nodes (at.base + length (p.below number)) passed.next.base (row.below_among wanted ps (number + p.states))
              (omega (arith, base, lower_are))
              (stand_second nodes at.base (p.below number) (row.below_among wanted ps (number + p.states)) below))
              passed.place,
        )

  pub walk_wanted : (wanted : Bool) (states : List State) → Each WalksState states → Each StateHas states → Each StateMarked states →
      (number t : ℕ) (ns : List ℕ) (targets : Targets) (at : Numbers) (following : Block) → length ns ≡ length states →
      StandAt ms number (marks_among (map marks_of_state states) ns) → StandAt nodes at.node (row.own_among wanted (map row.piece_of_state states) number) →
      StandAt nodes at.base (row.below_among wanted (map row.piece_of_state states) number) →
      Main t (made (texts wanted targets (map low_of_state states) ns) at following) → AllWanted wanted states number
  walk_wanted wanted [] walks has marked number t ns targets at following long marks own below main = tt
  walk_wanted wanted (s ∷ states) walks has marked number t [] targets at following long marks own below main = absurd cc
  walk_wanted wanted (s ∷ states) walks has marked number t (n ∷ ns) targets at following long marks own below main =
      let next_number : ℕ = number + (row.piece_of_state s).states in
      let shorter : length ns ≡ length states = (let one : suc (length ns) ≡ suc (length states) = long in omega (arith, one)) in
      one_wanted wanted s states walks.0 has.0 marked.0 number t n ns targets at following marks
      (λ next marks own below main. walk_wanted wanted states walks.1 has.1 marked.1 next_number t ns targets next following shorter marks own below main)
      (is_wanted wanted (low_of_state s).is_initial) refl
      (subst (λ i. StandAt nodes at.node
      ((if is_wanted wanted i then (row.piece_of_state s).own number else []) ++ row.own_among wanted (map row.piece_of_state states) next_number))
      has.0.initial own)
      (subst (λ i. StandAt nodes at.base
      ((if is_wanted wanted i then (row.piece_of_state s).below number else []) ++ row.below_among wanted (map row.piece_of_state states) next_number))
      has.0.initial below)
      main
