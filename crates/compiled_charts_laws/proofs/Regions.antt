-- All states of a chart stand in the text of its lowering and in the row of nodes to states.
use Rattle.std.proofs.Common.{◌≡◌, ℕ, zero, suc, ◌+◌, ⊎_elim, Bool, true, false, not, Option, None, List, [], ◌∷◌, ◌++◌, map, length, refl, sym, ap}
use Rattle.std.proofs.Common.{subst, ◌∙◌, arith}
use Rattle.std.proofs.lemmas.List.{length-map}
use Rattle.sc_graph.specs.declared.program.Variable.{Variable}
use Rattle.sc_text.proofs.EachItem.{Each, each_of}
use Rattle.scl_graph.proofs.Resolved.{pieces_map}
use Rattle.core_charts.specs.declared.features.Features.TheVariants as features
use Rattle.core_charts.specs.declared.region.Region.{Region}
use Rattle.core_charts.specs.declared.region.State.{State}
use Rattle.core_charts.specs.declared.region.Region.TheOpen.{Region-F}
use Rattle.core_charts.specs.declared.region.Region.TheViews.{out-Region, out-State}
use Rattle.core_charts.specs.declared.region.Region.TheFolds.{fold_out-Region}
use Rattle.core_charts.specs.Rules.{IsRegion, AreRegions}
use Rattle.scl.specs.declared.statement.Statement.{Statement}
use Rattle.scl.specs.Block.{Block, End}
use Rattle.scl.specs.Numbering.{Numbers, Piece, piece_of, in_row, thread_body, inside}
use Rattle.scl_graph_laws.proofs.Segments.{StandAt, stand_from, stand_first, stand_second}
use Rattle.scl_graph_laws.proofs.Scopes.{KeepsScopes}
use Rattle.chart_machine.proofs.Outside.{within_or_past}
use Rattle.chart_lowering.specs.declared.targets.Targets.{Targets}
use Rattle.chart_lowering.specs.Lowering.{RegionPiece, StatePiece, label, texts, numbers, targets, body, labels_in_initial, labels_in_states}
use Rattle.chart_lowering.specs.Lowering.{region_piece as low_region, state_piece as low_state, piece_of_region as low_of_region}
use Rattle.chart_lowering.specs.Lowering.{piece_of_state as low_of_state}
use Rattle.node_states.specs.Nodes as row
use Rattle.chart_lowering_laws.specs.Marks.{Mark, RegionMarks, StateMarks, marks_among, region_marks, state_marks, marks_of_region}
use Rattle.chart_lowering_laws.proofs.Texts.{made}
use Rattle.chart_lowering_laws.proofs.Finding.{MainPlace}
use Rattle.chart_lowering_laws.proofs.OwnNames.{numbers_long}
use Rattle.chart_lowering_laws.proofs.Marking.{marks_of_state, StateMarked, low_states_same, state_is_marked, regions_marked}
use Rattle.chart_lowering_laws.proofs.Walking.{low_open_region}
use Rattle.compiled_charts_laws.proofs.NodeCounts.{Has, counts_of}
use Rattle.compiled_charts_laws.proofs.StateCounts.{StateHas, states_have, texts_have, thread_long, regions_have}
use Rattle.compiled_charts_laws.proofs.Walking.{AllAt, AllWanted, WalksRegion, WalksRegionBy, WalksState, WalksSide, PassedNodes, pass_nodes, in_front}
use Rattle.compiled_charts_laws.proofs.Walking.{walk_side, walk_state, walk_wanted}

module _ (root : Block) (keeps : KeepsScopes root) (ms : List Mark) (nodes : List (Option ℕ)) where
  abbrev Main : ℕ → Block → Type 0
  Main t b = MainPlace root keeps t b

  abbrev All : ℕ → ℕ → Type 0
  All lo hi = AllAt root keeps ms nodes lo hi

  -- the initial ones and the others are all
  all_wanted : (states : List State) (number : ℕ) → AllWanted root keeps ms nodes true states number → AllWanted root keeps ms nodes false states number →
      All number (number + row.states_among (map row.piece_of_state states))
  all_wanted [] number first others s lo hi = absurd (omega (arith, lo, hi))
  all_wanted (x ∷ states) number first others s lo hi =
      let size : ℕ = (row.piece_of_state x).states in
      ⊎_elim (λ less. by (low_of_state x).is_initial first.0 others.0 s lo less)
      (λ more. all_wanted states (number + size) first.1 others.1 s more (omega (arith, hi))) (within_or_past s (number + size))
    where
      by : (b : Bool) → (b ≡ true → All number (number + (row.piece_of_state x).states)) →
          (not b ≡ true → All number (number + (row.piece_of_state x).states)) →
          All number (number + (row.piece_of_state x).states)
      by true first others = first refl
      by false first others = others refl

  -- a region of these states
  of_states : (states : List State) → Each (WalksState root keeps ms nodes) states → Each StateHas states → Each StateMarked states →
      (number end : ℕ) (ns : List ℕ) (goes : Targets) (at : Numbers) → length ns ≡ length states →
      StandAt ms number (marks_among (map marks_of_state states) ns) →
      StandAt nodes at.base (row.region_over (map row.piece_of_state states) number) →
      Main at.thread (thread_body (in_row (map piece_of (body goes (map low_of_state states) ns end))) at.base
      (inside at (in_row (map piece_of (body goes (map low_of_state states) ns end))).counts)) →
      All number (number + row.states_among (map row.piece_of_state states))
  of_states states walks has marked number end ns goes at long marks own main =
      let low : List StatePiece = map low_of_state states in
      let ps : List row.StatePiece = map row.piece_of_state states in
      let a : List Statement = texts true goes low ns in
      let b : List Statement = texts false goes low ns in
      let whole : List Statement = (a ++ b) ++ label end ∷ [] in
      let p : Piece = in_row (map piece_of whole) in
      let last : Block = End (at.base + p.counts.nodes) in
      let next : Numbers = inside at p.counts in
      let main_too : Main at.thread (made whole next last) = subst (λ qs. Main at.thread ((in_row qs).made next last)) (sym (pieces_map whole)) main in
      let both : (more : Block) × Main at.thread (made (a ++ b) next more) = in_front root keeps at.thread (a ++ b) (label end ∷ []) next last main_too in
      let first : (more : Block) × Main at.thread (made a next more) = in_front root keeps at.thread a b next both.0 both.1 in
      let passed : PassedNodes root keeps at.thread a b next both.0 = pass_nodes root keeps at.thread a b next both.0 both.1 in
      let has_a : Has a (length (row.own_among true ps number)) (length (row.below_among true ps number)) = texts_have true states has goes ns long number in
      let has_b : Has b (length (row.own_among false ps number)) (length (row.below_among false ps number)) = texts_have false states has goes ns long number in
      let nodes_a : (counts_of a).nodes ≡ length (row.own_among true ps number) = has_a.nodes in
      let lower_a : (counts_of a).lower ≡ length (row.below_among true ps number) = has_a.lower in
      let nodes_b : (counts_of b).nodes ≡ length (row.own_among false ps number) = has_b.nodes in
      let many : p.counts.nodes ≡ (counts_of a).nodes + (counts_of b).nodes =
      ap (λ qs. (in_row qs).counts.nodes) (sym (pieces_map whole)) ∙ body_nodes a b end in
      let thread : StandAt nodes at.base (row.thread ps number) = stand_first nodes at.base (row.thread ps number) (row.forked ps number) own in
      let texts_stand : StandAt nodes at.base (row.own_among true ps number ++ row.own_among false ps number) =
      stand_first nodes at.base (row.own_among true ps number ++ row.own_among false ps number) (None ∷ []) thread in
      let tall : length (row.thread ps number) ≡ suc (length (row.own_among true ps number) + length (row.own_among false ps number)) = thread_long ps number in
      let forked : StandAt nodes next.base (row.forked ps number) =
      stand_from nodes (at.base + length (row.thread ps number)) next.base (row.forked ps number) (omega (arith, tall, many, nodes_a, nodes_b))
      (stand_second nodes at.base (row.thread ps number) (row.forked ps number) own) in
      let node : passed.next.node ≡ next.node + (counts_of a).nodes = passed.node in
      let base : passed.next.base ≡ next.base + (counts_of a).lower = passed.base in
      all_wanted states number
      (walk_wanted root keeps ms nodes true states walks has marked number at.thread ns goes next first.0 long marks
      (stand_first nodes at.base (row.own_among true ps number) (row.own_among false ps number) texts_stand)
      (stand_first nodes next.base (row.below_among true ps number) (row.below_among false ps number) forked) first.1)
      (walk_wanted root keeps ms nodes false states walks has marked number at.thread ns goes passed.next both.0 long marks
      (stand_from nodes (at.base + length (row.own_among true ps number)) passed.next.node (row.own_among false ps number) (omega (arith, node, nodes_a))
      (stand_second nodes at.base (row.own_among true ps number) (row.own_among false ps number) texts_stand))
      (stand_from nodes (next.base + length (row.below_among true ps number)) passed.next.base (row.below_among false ps number) (omega (arith, base, lower_a))
      (stand_second nodes next.base (row.below_among true ps number) (row.below_among false ps number) forked)) passed.place)
    where
      nodes_append : (a b : List Statement) → (counts_of (a ++ b)).nodes ≡ (counts_of a).nodes + (counts_of b).nodes
      nodes_append [] b = omega arith
      nodes_append (s ∷ a) b = let h : _ = nodes_append a b in omega (arith, h)

      body_nodes : (a b : List Statement) (end : ℕ) → (counts_of ((a ++ b) ++ label end ∷ [])).nodes ≡ (counts_of a).nodes + (counts_of b).nodes
      body_nodes a b end =
          let one : (counts_of ((a ++ b) ++ label end ∷ [])).nodes ≡ (counts_of (a ++ b)).nodes + (counts_of (label end ∷ [])).nodes =
          nodes_append (a ++ b) (label end ∷ []) in
          let two : (counts_of (a ++ b)).nodes ≡ (counts_of a).nodes + (counts_of b).nodes = nodes_append a b in
          let none : (counts_of (label end ∷ [])).nodes ≡ 0 =
          (Rattle.compiled_charts_laws.proofs.NodeCounts.label_first end [] 0 0 Rattle.compiled_charts_laws.proofs.NodeCounts.has_none).nodes in
          omega (arith, one, two, none)

  module _ (r : Region) where
    abbrev states : List State
    states = (out-Region r).states

    abbrev low : List StatePiece
    low = map low_of_state states

    abbrev row_open_region : Region-F row.RegionPiece row.StatePiece
    row_open_region = record { name = (out-Region r).name; states = map row.piece_of_state states }

    opened : Each (WalksState root keeps ms nodes) states → Each StateHas states → Each StateMarked states →
        WalksRegionBy root keeps ms nodes (row.region_piece row_open_region) (low_region (low_open_region r))
        (region_marks (record { name = (out-Region r).name; states = map marks_of_state states }))
    opened walks has marked number n at marks own main =
        let ns : List ℕ = numbers low n (n + labels_in_initial low) in
        of_states states walks has marked number (n + labels_in_states low) ns (targets ns (n + labels_in_states low)) at
        (numbers_long low n (n + labels_in_initial low) ∙ length-map states low_of_state)
        (subst (λ xs. StandAt ms number (marks_among (map marks_of_state states) (numbers xs n (n + labels_in_initial xs))))
        (low_states_same states marked) marks)
        own main

    walk_region : Each (WalksState root keeps ms nodes) states → Each StateHas states → Each StateMarked states → WalksRegion root keeps ms nodes r
    walk_region walks has marked =
        subst (λ p. WalksRegionBy root keeps ms nodes p (low_of_region r) (marks_of_region r))
        (sym (fold_out-Region row.RegionPiece row.StatePiece row.region_piece row.state_piece r))
        (subst (λ low. WalksRegionBy root keeps ms nodes (row.region_piece row_open_region) low (marks_of_region r))
        (sym (fold_out-Region RegionPiece StatePiece low_region low_state r))
        (subst (λ m. WalksRegionBy root keeps ms nodes (row.region_piece row_open_region) (low_region (low_open_region r)) m)
        (sym (fold_out-Region RegionMarks StateMarks region_marks state_marks r)) (opened walks has marked)))

  -- regions of a core chart that nest this many levels deep
  pub regions_walk : (variables : List Variable) (levels : ℕ) (regions : List Region) → AreRegions features.Core variables levels regions →
      Each (WalksRegion root keeps ms nodes) regions
  regions_walk variables zero regions h = subst (Each (WalksRegion root keeps ms nodes)) (sym h) tt
  regions_walk variables (suc levels) regions h = each_of (WalksRegion root keeps ms nodes) regions
      (λ i r at. one r (h.each i r at) (λ rs rules. walk_side root keeps ms nodes rs (regions_walk variables levels rs rules)
      (regions_have variables levels rs rules)
      (regions_marked variables levels rs rules)))
    where
      one : (r : Region) → IsRegion features.Core variables (AreRegions features.Core variables levels) r →
          ((rs : List Region) → AreRegions features.Core variables levels rs → WalksSide root keeps ms nodes rs) → WalksRegion root keeps ms nodes r
      one r rules sides =
          let states : List State = (out-Region r).states in
          walk_region r
          (each_of (WalksState root keeps ms nodes) states (λ i s at. walk_state root keeps ms nodes s (rules.states i s at).bare
          (regions_marked variables levels (out-State s).regions (rules.states i s at).regions) (sides (out-State s).regions (rules.states i s at).regions)))
          (each_of StateHas states (λ i s at. states_have s (λ final. ((rules.states i s at).bare final).0)
          (regions_have variables levels (out-State s).regions (rules.states i s at).regions)))
          (each_of StateMarked states (λ i s at. state_is_marked s (regions_marked variables levels (out-State s).regions (rules.states i s at).regions)))
