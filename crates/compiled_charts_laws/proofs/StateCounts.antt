-- The nodes of a state and of a region are as many as the row of nodes to states has for them, and so are their states.
use Rattle.std.proofs.lemmas.List.{length-map}
use Rattle.std.proofs.Common.{◌≡◌, ℕ, zero, suc, ◌+◌, Bool, true, false, if◌then◌else◌, None, List, [], ◌∷◌, ◌++◌, map, length, refl, sym, ap}
use Rattle.std.proofs.Common.{length-append, subst, ◌∙◌, arith}
use Rattle.sc_graph.specs.declared.program.Variable.{Variable}
use Rattle.sc_text.proofs.EachItem.{Each, each_of}
use Rattle.scl_graph.proofs.Resolved.{pieces_map}
use Rattle.core_charts.specs.declared.features.Features.TheVariants as features
use Rattle.core_charts.specs.declared.region.Transition.{Transition}
use Rattle.core_charts.specs.declared.region.Region.{Region}
use Rattle.core_charts.specs.declared.region.State.{State}
use Rattle.core_charts.specs.declared.region.Region.TheViews.{out-Region, out-State}
use Rattle.core_charts.specs.declared.region.Region.TheFolds.{fold_out-Region, fold_out-State}
use Rattle.core_charts.specs.Rules.{IsRegion, AreRegions}
use Rattle.core_charts.specs.Tests.{at_once, terminations}
use Rattle.chart_machine.specs.Table as table
use Rattle.scl.specs.declared.statement.Statement.{Statement}
use Rattle.scl.specs.declared.statement.Statement.TheVariants as statement
use Rattle.scl.specs.Numbering.{Counts, piece_of, in_row, all_branch_counts}
use Rattle.chart_lowering.specs.declared.targets.Targets.{Targets}
use Rattle.chart_lowering.specs.Lowering.{RegionPiece, StatePiece, label, label_name, goto, transitions, depth, simple, final, behind, superstate}
use Rattle.chart_lowering.specs.Lowering.{branches, text_of, texts, numbers, is_wanted, body, targets, labels_in, labels_in_initial}
use Rattle.chart_lowering.specs.Lowering.{labels_in_states, leaves_surely}
use Rattle.chart_lowering.specs.Lowering.{region_piece as low_region, state_piece as low_state, piece_of_region as low_of_region}
use Rattle.chart_lowering.specs.Lowering.{piece_of_state as low_of_state}
use Rattle.node_states.specs.Nodes as row
use Rattle.chart_lowering_laws.proofs.Texts.{fork_piece, pause_piece}
use Rattle.chart_lowering_laws.proofs.OwnNames.{numbers_long}
use Rattle.compiled_charts_laws.proofs.NodeCounts.{Has, has_as, has_none, has_first, has_append}
use Rattle.compiled_charts_laws.proofs.NodeCounts.{label_first, goto_first, taken_has, tests_have, unless, counts_of}

none_unless : (b : Bool) → unless b 0 ≡ 0
none_unless true = refl
none_unless false = refl

pub depth_has : (at : Targets) (all : List Transition) (n : ℕ) → Has (depth at all n) (2 + length (row.tests all)) 0
depth_has at all n =
    let more : List Statement = transitions at all (goto n ∷ []) in
    let none : unless (leaves_surely all) 0 ≡ 0 = none_unless (leaves_surely all) in
    label_first n (statement.Pause ∷ more) (2 + length (row.tests all)) 0
    (has_as (statement.Pause ∷ more) (2 + (length (row.tests all) + unless (leaves_surely all) 0)) (0 + 0) (2 + length (row.tests all)) 0
    (omega (arith, none)) (omega arith)
    (has_first statement.Pause more 2 0 (length (row.tests all) + unless (leaves_surely all) 0) 0 (ap (λ p. p.counts.nodes) pause_piece)
    (ap (λ p. p.counts.lower) pause_piece) (tests_have at all (goto n ∷ []) 0 (goto_first (label_name n) [] 0 0 has_none))))

depth_long : (b : Bool) (all : List Transition) (s : ℕ) → length (row.depth b all s) ≡ unless b (2 + length (row.tests all))
depth_long true all s = refl
depth_long false all s = two_more (length (row.tests all))
  where
    two_more : (n : ℕ) → suc (suc n) ≡ 2 + n
    two_more n = omega arith

pub simple_has : (at : Targets) (all : List Transition) (n s : ℕ) → Has (simple at all n) (length (row.simple all s)) 0
simple_has at all n s =
    let sure : Bool = leaves_surely (at_once all) in
    let sum : length (row.simple all s) ≡ length (row.tests (at_once all)) + length (row.depth sure all s) = length-append (row.tests (at_once all))
    (row.depth sure all s) in
    let long : length (row.depth sure all s) ≡ unless sure (2 + length (row.tests all)) = depth_long sure all s in
    has_as (simple at all n) (length (row.tests (at_once all)) + unless sure (2 + length (row.tests all))) 0 (length (row.simple all s)) 0
    (omega (arith, sum, long)) refl
    (label_first n (transitions at (at_once all) (depth at all (suc n))) (length (row.tests (at_once all)) + unless sure (2 + length (row.tests all))) 0
    (tests_have at (at_once all) (depth at all (suc n)) (2 + length (row.tests all)) (depth_has at all (suc n))))

final_has : (at : Targets) (n : ℕ) → Has (final at n) 0 0
final_has at n = label_first n (statement.Goto at.end ∷ []) 0 0 (goto_first at.end [] 0 0 has_none)

behind_has : (at : Targets) (joins : List Transition) (n s : ℕ) → Has (behind at joins n) (length (row.behind joins s)) 0
behind_has at [] n s = has_as (depth at [] n) (2 + 0) 0 2 0 (omega arith) refl (depth_has at [] n)
behind_has at (join ∷ others) n s = taken_has at join

-- ---- states and regions

-- as many nodes, and as many states as in the chart's table
pub record RegionHas (r : Region) : Type 0 where
  pub nodes : (n s : ℕ) → suc (counts_of ((low_of_region r).body n)).nodes + (counts_of ((low_of_region r).body n)).lower
      ≡ length ((row.piece_of_region r).nodes s)
  pub states : (row.piece_of_region r).states ≡ (table.subtree_of_region r).states

pub record StateHas (x : State) : Type 0 where
  pub nodes : (at : Targets) (n s : ℕ) → Has ((low_of_state x).text at n) (length ((row.piece_of_state x).own s)) (length ((row.piece_of_state x).below s))
  pub states : (row.piece_of_state x).states ≡ (table.subtree_of_state x).states
  pub initial : (row.piece_of_state x).is_initial ≡ (low_of_state x).is_initial

-- the branches of a fork
pub branches_have : (regions : List Region) → Each RegionHas regions → (n s : ℕ) →
    ((all_branch_counts (map (map piece_of) (branches (map low_of_region regions) n))).nodes ≡ 0)
    × ((all_branch_counts (map (map piece_of) (branches (map low_of_region regions) n))).lower ≡ length (row.beside (map row.piece_of_region regions) s))
branches_have [] each n s = (refl, refl)
branches_have (r ∷ regions) each n s =
    let body : List Statement = (low_of_region r).body n in
    let here : suc (counts_of body).nodes + (counts_of body).lower ≡ length ((row.piece_of_region r).nodes s) = each.0.nodes n s in
    let same : (in_row (map piece_of body)).counts ≡ counts_of body = ap (λ ps. (in_row ps).counts) (sym (pieces_map body)) in
    let nodes : (in_row (map piece_of body)).counts.nodes ≡ (counts_of body).nodes = ap (λ (c : Counts). c.nodes) same in
    let lower : (in_row (map piece_of body)).counts.lower ≡ (counts_of body).lower = ap (λ (c : Counts). c.lower) same in
    let rest : _ = branches_have regions each.1 (n + (low_of_region r).labels) (s + (row.piece_of_region r).states) in
    let rest_nodes : (all_branch_counts (map (map piece_of) (branches (map low_of_region regions) (n + (low_of_region r).labels)))).nodes ≡ 0 = rest.0 in
    let rest_lower : (all_branch_counts (map (map piece_of) (branches (map low_of_region regions) (n + (low_of_region r).labels)))).lower
    ≡ length (row.beside (map row.piece_of_region regions) (s + (row.piece_of_region r).states)) = rest.1 in
    let sum : length ((row.piece_of_region r).nodes s ++ row.beside (map row.piece_of_region regions) (s + (row.piece_of_region r).states))
    ≡ length ((row.piece_of_region r).nodes s) + length (row.beside (map row.piece_of_region regions) (s + (row.piece_of_region r).states)) =
    length-append ((row.piece_of_region r).nodes s) (row.beside (map row.piece_of_region regions) (s + (row.piece_of_region r).states)) in
    (omega (arith, rest_nodes), omega (arith, here, nodes, lower, rest_lower, sum))

-- a state with these regions
state_has : (is_final : Bool) (regions : List Region) (all : List Transition) → (is_final ≡ true → regions ≡ []) → Each RegionHas regions →
    (at : Targets) (n s : ℕ) → Has (text_of is_final (map low_of_region regions) all at n)
    (length (row.own_of is_final (map row.piece_of_region regions) all s))
    (length (row.below_of is_final (map row.piece_of_region regions) s))
state_has true regions all bare each at n s = final_has at n
state_has false [] all bare each at n s = simple_has at all n s
state_has false (r ∷ regions) all bare each at n s =
    let whole : List Region = r ∷ regions in
    let bodies : List (List Statement) = branches (map low_of_region whole) (suc n) in
    let rest : List Statement = behind at (terminations all) (suc n + labels_in (map low_of_region whole)) in
    let inner : _ = branches_have whole each (suc n) (suc s) in
    let no_nodes : (all_branch_counts (map (map piece_of) bodies)).nodes ≡ 0 = inner.0 in
    let lower : (all_branch_counts (map (map piece_of) bodies)).lower ≡ length (row.beside (map row.piece_of_region whole) (suc s)) = inner.1 in
    let below : ℕ = length (row.beside (map row.piece_of_region whole) (suc s)) in
    let after : ℕ = length (row.behind (terminations all) s) in
    has_as (superstate at (map low_of_region whole) all n) (2 + after) (below + 0) (suc (suc after)) below (omega arith) (omega arith)
    (label_first n (statement.Fork bodies ∷ rest) (2 + after) (below + 0)
    (has_first (statement.Fork bodies) rest 2 below after 0
    (ap (λ p. p.counts.nodes) (fork_piece bodies) ∙ omega (arith, no_nodes)) (ap (λ p. p.counts.lower) (fork_piece bodies) ∙ omega (arith, lower))
    (behind_has at (terminations all) (suc n + labels_in (map low_of_region whole)) s)))

pub side_states : (regions : List Region) → Each RegionHas regions → row.states_in (map row.piece_of_region regions)
    ≡ table.states_in (map table.subtree_of_region regions)
side_states [] each = refl
side_states (r ∷ regions) each =
    let here : (row.piece_of_region r).states ≡ (table.subtree_of_region r).states = each.0.states in
    let rest : row.states_in (map row.piece_of_region regions) ≡ table.states_in (map table.subtree_of_region regions) = side_states regions each.1 in
    omega (arith, here, rest)

pub states_have : (x : State) → (((out-State x).is_final ≡ true) → (out-State x).regions ≡ []) → Each RegionHas (out-State x).regions → StateHas x
states_have x bare each = record {
  nodes = λ at n s.
      subst (λ (p : row.StatePiece). Has ((low_of_state x).text at n) (length (p.own s)) (length (p.below s)))
      (sym (fold_out-State row.RegionPiece row.StatePiece row.region_piece row.state_piece x))
      (subst (λ (p : StatePiece). Has (p.text at n)
      (length (row.own_of (out-State x).is_final (map row.piece_of_region (out-State x).regions) (out-State x).transitions s))
      (length (row.below_of (out-State x).is_final (map row.piece_of_region (out-State x).regions) s)))
      (sym (fold_out-State RegionPiece StatePiece low_region low_state x))
      (state_has (out-State x).is_final (out-State x).regions (out-State x).transitions bare each at n s));
  states =
      ap (λ (p : row.StatePiece). p.states) (fold_out-State row.RegionPiece row.StatePiece row.region_piece row.state_piece x)
      ∙ ap suc (side_states (out-State x).regions each)
      ∙ sym (ap (λ (p : table.Subtree). p.states) (fold_out-State table.Subtree table.Subtree table.region_subtree table.state_subtree x));
  initial =
      ap (λ (p : row.StatePiece). p.is_initial) (fold_out-State row.RegionPiece row.StatePiece row.region_piece row.state_piece x)
      ∙ sym (ap (λ (p : StatePiece). p.is_initial) (fold_out-State RegionPiece StatePiece low_region low_state x));
}

-- the text of a state of a region, where it is wanted, and those behind it
module _ (wanted : Bool) (x : State) (states : List State) (at : Targets) (n : ℕ) (ns : List ℕ) (s next : ℕ) (has : StateHas x)
    (rest : Has (texts wanted at (map low_of_state states) ns) (length (row.own_among wanted (map row.piece_of_state states) next))
    (length (row.below_among wanted (map row.piece_of_state states) next))) where
  abbrev own_rest : row.Nodes
  own_rest = row.own_among wanted (map row.piece_of_state states) next

  abbrev below_rest : row.Nodes
  below_rest = row.below_among wanted (map row.piece_of_state states) next

  one_text : (b : Bool) → Has ((if b then (low_of_state x).text at n else []) ++ texts wanted at (map low_of_state states) ns)
      (length ((if b then (row.piece_of_state x).own s else []) ++ own_rest)) (length ((if b then (row.piece_of_state x).below s else []) ++ below_rest))
  one_text false = rest
  one_text true =
      let own : row.Nodes = (row.piece_of_state x).own s in
      let below : row.Nodes = (row.piece_of_state x).below s in
      has_as ((low_of_state x).text at n ++ texts wanted at (map low_of_state states) ns) (length own + length own_rest) (length below + length below_rest)
      (length (own ++ own_rest)) (length (below ++ below_rest)) (sym (length-append own own_rest)) (sym (length-append below below_rest))
      (has_append ((low_of_state x).text at n) (texts wanted at (map low_of_state states) ns) (length own) (length below) (length own_rest) (length below_rest)
      (has.nodes at n s) rest)

-- those states of a region that are wanted
pub texts_have : (wanted : Bool) (states : List State) → Each StateHas states → (at : Targets) (ns : List ℕ) → length ns ≡ length states → (s : ℕ) →
    Has (texts wanted at (map low_of_state states) ns) (length (row.own_among wanted (map row.piece_of_state states) s))
    (length (row.below_among wanted (map row.piece_of_state states) s))
texts_have wanted [] each at ns long s = has_none
texts_have wanted (x ∷ states) each at [] long s = absurd cc
texts_have wanted (x ∷ states) each at (n ∷ ns) long s =
    let next : ℕ = s + (row.piece_of_state x).states in
    let shorter : length ns ≡ length states = (let one : suc (length ns) ≡ suc (length states) = long in omega (arith, one)) in
    subst (λ i. Has (texts wanted at (map low_of_state (x ∷ states)) (n ∷ ns))
    (length ((if is_wanted wanted i then (row.piece_of_state x).own s else []) ++ row.own_among wanted (map row.piece_of_state states) next))
    (length ((if is_wanted wanted i then (row.piece_of_state x).below s else []) ++ row.below_among wanted (map row.piece_of_state states) next)))
    (sym each.0.initial)
    (one_text wanted x states at n ns s next each.0 (texts_have wanted states each.1 at ns shorter next) (is_wanted wanted (low_of_state x).is_initial))

among_states : (states : List State) → Each StateHas states → row.states_among (map row.piece_of_state states)
    ≡ table.states_in (map table.subtree_of_state states)
among_states [] each = refl
among_states (x ∷ states) each =
    let here : (row.piece_of_state x).states ≡ (table.subtree_of_state x).states = each.0.states in
    let rest : row.states_among (map row.piece_of_state states) ≡ table.states_in (map table.subtree_of_state states) = among_states states each.1 in
    omega (arith, here, rest)

pub thread_long : (ps : List row.StatePiece) (s : ℕ) →
    length (row.thread ps s) ≡ suc (length (row.own_among true ps s) + length (row.own_among false ps s))
thread_long ps s =
    let a : row.Nodes = row.own_among true ps s in
    let b : row.Nodes = row.own_among false ps s in
    long a b
  where
    long : (a b : row.Nodes) → length ((a ++ b) ++ None ∷ []) ≡ suc (length a + length b)
    long a b =
        let one : length ((a ++ b) ++ None ∷ []) ≡ length (a ++ b) + 1 = length-append (a ++ b) (None ∷ []) in
        let two : length (a ++ b) ≡ length a + length b = length-append a b in
        omega (arith, one, two)

-- a region of these states
region_nodes : (states : List State) → Each StateHas states → (at : Targets) (ns : List ℕ) → length ns ≡ length states → (end s : ℕ) →
    suc (counts_of (body at (map low_of_state states) ns end)).nodes + (counts_of (body at (map low_of_state states) ns end)).lower
    ≡ length (row.region_over (map row.piece_of_state states) s)
region_nodes states each at ns long end s =
    let low : List StatePiece = map low_of_state states in
    let ps : List row.StatePiece = map row.piece_of_state states in
    let first : Has (texts true at low ns) (length (row.own_among true ps s)) (length (row.below_among true ps s)) = texts_have true states each at ns long s in
    let others : Has (texts false at low ns) (length (row.own_among false ps s)) (length (row.below_among false ps s)) =
    texts_have false states each at ns long s
    in
    let last : Has (label end ∷ []) 0 0 = label_first end [] 0 0 has_none in
    let texts_are : Has ((texts true at low ns ++ texts false at low ns) ++ label end ∷ [])
    ((length (row.own_among true ps s) + length (row.own_among false ps s)) + 0)
    ((length (row.below_among true ps s) + length (row.below_among false ps s)) + 0) =
    has_append (texts true at low ns ++ texts false at low ns) (label end ∷ []) (length (row.own_among true ps s) + length (row.own_among false ps s))
    (length (row.below_among true ps s) + length (row.below_among false ps s)) 0 0
    (has_append (texts true at low ns) (texts false at low ns) (length (row.own_among true ps s)) (length (row.below_among true ps s))
    (length (row.own_among false ps s)) (length (row.below_among false ps s)) first others) last in
    let nodes : (counts_of (body at low ns end)).nodes ≡ (length (row.own_among true ps s) + length (row.own_among false ps s)) + 0 = texts_are.nodes in
    let lower : (counts_of (body at low ns end)).lower ≡ (length (row.below_among true ps s) + length (row.below_among false ps s)) + 0 = texts_are.lower in
    let both : length (row.region_over ps s) ≡ length (row.thread ps s) + length (row.forked ps s) = length-append (row.thread ps s) (row.forked ps s) in
    let forked : length (row.forked ps s) ≡ length (row.below_among true ps s) + length (row.below_among false ps s) =
    length-append (row.below_among true ps s) (row.below_among false ps s) in
    let thread : length (row.thread ps s) ≡ suc (length (row.own_among true ps s) + length (row.own_among false ps s)) = thread_long ps s in
    omega (arith, nodes, lower, both, forked, thread)

region_has : (r : Region) → Each StateHas (out-Region r).states → RegionHas r
region_has r each = record {
  nodes = λ n s.
      let states : List State = (out-Region r).states in
      let low : List StatePiece = map low_of_state states in
      let ns : List ℕ = numbers low n (n + labels_in_initial low) in
      subst (λ (p : row.RegionPiece). suc (counts_of ((low_of_region r).body n)).nodes + (counts_of ((low_of_region r).body n)).lower ≡ length (p.nodes s))
      (sym (fold_out-Region row.RegionPiece row.StatePiece row.region_piece row.state_piece r))
      (subst (λ (p : RegionPiece). suc (counts_of (p.body n)).nodes + (counts_of (p.body n)).lower ≡ length (row.region_over (map row.piece_of_state states) s))
      (sym (fold_out-Region RegionPiece StatePiece low_region low_state r))
      (region_nodes states each (targets ns (n + labels_in_states low)) ns
      (numbers_long low n (n + labels_in_initial low) ∙ length-map states low_of_state) (n + labels_in_states low) s));
  states =
      ap (λ (p : row.RegionPiece). p.states) (fold_out-Region row.RegionPiece row.StatePiece row.region_piece row.state_piece r)
      ∙ among_states (out-Region r).states each
      ∙ sym (ap (λ (p : table.Subtree). p.states) (fold_out-Region table.Subtree table.Subtree table.region_subtree table.state_subtree r));
}

-- regions of a core chart
pub regions_have : (variables : List Variable) (levels : ℕ) (regions : List Region) → AreRegions features.Core variables levels regions →
    Each RegionHas regions
regions_have variables zero regions h = subst (Each RegionHas) (sym h) tt
regions_have variables (suc levels) regions h = each_of RegionHas regions (λ i r at. one r (h.each i r at) (regions_have variables levels))
  where
    one : (r : Region) → IsRegion features.Core variables (AreRegions features.Core variables levels) r →
        ((rs : List Region) → AreRegions features.Core variables levels rs → Each RegionHas rs) → RegionHas r
    one r rules inner = region_has r
        (each_of StateHas (out-Region r).states
        (λ i s at. states_have s (λ final. ((rules.states i s at).bare final).0) (inner (out-State s).regions (rules.states i s at).regions)))
