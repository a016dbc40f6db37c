-- The threads of a region's text are as many as the regions inside it, so that regions and threads have the same numbers.
use Rattle.std.proofs.Common.{◌≡◌, ℕ, zero, suc, ◌+◌, Bool, true, false, if◌then◌else◌, Option, Some, None, List, [], ◌∷◌, ◌++◌, map, length, refl, sym, ap}
use Rattle.std.proofs.Common.{subst, ◌∙◌, arith}
use Rattle.sc_values.specs.declared.expression.Expr.{Expr}
use Rattle.sc_graph.specs.declared.program.Variable.{Variable}
use Rattle.sc_text.proofs.EachItem.{Each, each_of}
use Rattle.scl_graph.proofs.Resolved.{pieces_map}
use Rattle.core_charts.specs.declared.features.Features.TheVariants as features
use Rattle.core_charts.specs.declared.region.Effect.{Effect}
use Rattle.core_charts.specs.declared.region.Transition.{Transition}
use Rattle.core_charts.specs.declared.region.Region.{Region}
use Rattle.core_charts.specs.declared.region.State.{State}
use Rattle.core_charts.specs.declared.region.Region.TheOpen.{State-F}
use Rattle.core_charts.specs.declared.region.Region.TheViews.{out-Region, out-State}
use Rattle.core_charts.specs.declared.region.Region.TheFolds.{fold_out-Region, fold_out-State}
use Rattle.core_charts.specs.Rules.{IsState, IsRegion, AreRegions}
use Rattle.core_charts.specs.Tests.{at_once, terminations}
use Rattle.chart_machine.specs.Table.{Subtree, regions_in, region_subtree, state_subtree, subtree_of_region, subtree_of_state}
use Rattle.scl.specs.declared.statement.Statement.{Statement}
use Rattle.scl.specs.declared.statement.Statement.TheVariants as statement
use Rattle.scl.specs.Numbering.{piece_of, pieces_of, in_row, all_branch_counts}
use Rattle.chart_lowering.specs.declared.targets.Targets.{Targets}
use Rattle.chart_lowering.specs.Lowering.{RegionPiece, StatePiece, label, goto, assignment, taken, tested, transitions, depth, simple, final, behind}
use Rattle.chart_lowering.specs.Lowering.{branches, text_of, texts, numbers, is_wanted, body, targets, labels_in_initial}
use Rattle.chart_lowering.specs.Lowering.{labels_in_states, labels_in, label_at}
use Rattle.chart_lowering.specs.Lowering.{region_piece as low_region, state_piece as low_state, piece_of_region as low_of_region}
use Rattle.chart_lowering.specs.Lowering.{piece_of_state as low_of_state}
use Rattle.chart_lowering_laws.proofs.Texts.{assign_piece, label_piece, goto_piece, pause_piece, if_piece, fork_piece}

abbrev pub threads_in : List Statement → ℕ
threads_in statements = (in_row (pieces_of statements)).counts.threads

pub threads_append : (a b : List Statement) → threads_in (a ++ b) ≡ threads_in a + threads_in b
threads_append [] b = omega arith
threads_append (s ∷ a) b = let h : threads_in (a ++ b) ≡ threads_in a + threads_in b = threads_append a b in omega (arith, h)

-- ---- texts that fork nothing

first_none : (s : Statement) (rest : List Statement) → (piece_of s).counts.threads ≡ 0 → threads_in rest ≡ 0 → threads_in (s ∷ rest) ≡ 0
first_none s rest h k = omega (arith, h, k)

pub label_none : (name : List ℕ) → (piece_of (statement.Label name)).counts.threads ≡ 0
label_none name = ap (λ p. p.counts.threads) (label_piece name)

goto_none : (name : List ℕ) → (piece_of (statement.Goto name)).counts.threads ≡ 0
goto_none name = ap (λ p. p.counts.threads) (goto_piece name)

pause_none : (piece_of statement.Pause).counts.threads ≡ 0
pause_none = ap (λ p. p.counts.threads) pause_piece

assign_none : (e : Effect) → (piece_of (assignment e)).counts.threads ≡ 0
assign_none e = ap (λ p. p.counts.threads) (assign_piece e.variable e.value)

does_none : (name : List ℕ) (effects : List Effect) → threads_in (map assignment effects ++ statement.Goto name ∷ []) ≡ 0
does_none name [] = first_none (statement.Goto name) [] (goto_none name) refl
does_none name (e ∷ effects) = first_none (assignment e) (map assignment effects ++ statement.Goto name ∷ []) (assign_none e) (does_none name effects)

taken_none : (at : Targets) (t : Transition) → threads_in (taken at t) ≡ 0
taken_none at t = does_none (label_at at t.target) t.effects

tests_none : (at : Targets) (ts : List Transition) (rest : List Statement) → threads_in rest ≡ 0 → threads_in (transitions at ts rest) ≡ 0
tests_none at [] rest h = h
tests_none at (t ∷ ts) rest h = by t.trigger (tests_none at ts rest h)
  where
    by : (o : Option Expr) → threads_in (transitions at ts rest) ≡ 0 → threads_in (tested o (taken at t) (transitions at ts rest)) ≡ 0
    by None k = taken_none at t
    by (Some e) k =
        first_none (statement.If e (taken at t) []) (transitions at ts rest)
        (ap (λ p. p.counts.threads) (if_piece e (taken at t) []) ∙ inner)
        k
      where
        inner : 0 + ((in_row (map piece_of (taken at t))).counts.threads + 0) ≡ 0
        inner = let h : (in_row (map piece_of (taken at t))).counts.threads ≡ 0 = ap (λ ps. (in_row ps).counts.threads) (sym (pieces_map (taken at t)))
            ∙ taken_none at t in omega (arith, h)

depth_none : (at : Targets) (all : List Transition) (n : ℕ) → threads_in (depth at all n) ≡ 0
depth_none at all n =
    first_none (label n) (statement.Pause ∷ transitions at all (goto n ∷ [])) (label_none (Rattle.chart_lowering.specs.Lowering.label_name n))
    (first_none statement.Pause (transitions at all (goto n ∷ [])) pause_none
    (tests_none at all (goto n ∷ []) (first_none (goto n) [] (goto_none (Rattle.chart_lowering.specs.Lowering.label_name n)) refl)))

simple_none : (at : Targets) (all : List Transition) (n : ℕ) → threads_in (simple at all n) ≡ 0
simple_none at all n =
    first_none (label n) (transitions at (at_once all) (depth at all (suc n))) (label_none (Rattle.chart_lowering.specs.Lowering.label_name n))
    (tests_none at (at_once all) (depth at all (suc n)) (depth_none at all (suc n)))

final_none : (at : Targets) (n : ℕ) → threads_in (final at n) ≡ 0
final_none at n = first_none (label n) (statement.Goto at.end ∷ []) (label_none (Rattle.chart_lowering.specs.Lowering.label_name n))
    (first_none (statement.Goto at.end) [] (goto_none at.end) refl)

behind_none : (at : Targets) (joins : List Transition) (n : ℕ) → threads_in (behind at joins n) ≡ 0
behind_none at [] n = depth_none at [] n
behind_none at (join ∷ others) n = taken_none at join

-- ---- regions and states

abbrev pub CountsRegion : Region → Type 0
CountsRegion r = (n : ℕ) → suc (threads_in ((low_of_region r).body n)) ≡ (subtree_of_region r).regions

abbrev pub CountsState : State → Type 0
CountsState s = (at : Targets) (n : ℕ) → threads_in ((low_of_state s).text at n) ≡ (subtree_of_state s).regions

-- the branches of a fork
pub branches_count : (regions : List Region) (n : ℕ) → Each CountsRegion regions →
    (all_branch_counts (map (map piece_of) (branches (map low_of_region regions) n))).threads ≡ regions_in (map subtree_of_region regions)
branches_count [] n each = refl
branches_count (r ∷ regions) n each =
    let here : suc (threads_in ((low_of_region r).body n)) ≡ (subtree_of_region r).regions = each.0 n in
    let same : (in_row (map piece_of ((low_of_region r).body n))).counts.threads ≡ threads_in ((low_of_region r).body n) = ap (λ ps. (in_row ps).counts.threads)
    (sym (pieces_map ((low_of_region r).body n))) in
    let rest : (all_branch_counts (map (map piece_of) (branches (map low_of_region regions) (n + (low_of_region r).labels)))).threads ≡ regions_in
    (map subtree_of_region regions) = branches_count regions (n + (low_of_region r).labels) each.1 in
    omega (arith, here, same, rest)

-- a state with these regions
state_count : (is_initial is_final : Bool) (regions : List Region) (all : List Transition) → (is_final ≡ true → regions ≡ []) → Each CountsRegion regions →
    (at : Targets) (n : ℕ) → threads_in (text_of is_final (map low_of_region regions) all at n) ≡ regions_in (map subtree_of_region regions)
state_count is_initial true regions all bare each at n = final_none at n ∙ sym (ap (λ rs. regions_in (map subtree_of_region rs)) (bare refl))
state_count is_initial false [] all bare each at n = simple_none at all n
state_count is_initial false (r ∷ regions) all bare each at n =
    let whole : List Region = r ∷ regions in
    let bodies : List (List Statement) = branches (map low_of_region whole) (suc n) in
    let rest : List Statement = behind at (terminations all) (suc n + labels_in (map low_of_region whole)) in
    let first : (piece_of (label n)).counts.threads ≡ 0 = label_none (Rattle.chart_lowering.specs.Lowering.label_name n) in
    let fork : (piece_of (statement.Fork bodies)).counts.threads ≡ 0 + (all_branch_counts (map (map piece_of) bodies)).threads = ap (λ p. p.counts.threads)
    (fork_piece bodies) in
    let count : (all_branch_counts (map (map piece_of) bodies)).threads ≡ regions_in (map subtree_of_region whole) = branches_count whole (suc n) each in
    let last : threads_in rest ≡ 0 = behind_none at (terminations all) (suc n + labels_in (map low_of_region whole)) in
    omega (arith, first, fork, count, last)

pub state_counts : (variables : List Variable) (levels count : ℕ) → ((regions : List Region) → AreRegions features.Core variables levels regions →
    Each CountsRegion regions) →
    (s : State) → IsState features.Core variables (AreRegions features.Core variables levels) count s → CountsState s
state_counts variables levels count inner s h at n =
    let o : State-F Region State = out-State s in
    ap (λ p. threads_in (p.text at n)) (fold_out-State RegionPiece StatePiece low_region low_state s)
    ∙ state_count o.is_initial o.is_final o.regions o.transitions (λ final. (h.bare final).0) (inner o.regions h.regions) at n
    ∙ sym (ap (λ p. p.regions) (fold_out-State Subtree Subtree region_subtree state_subtree s))

-- the text of the first state, where it is wanted, and those of the others
pub texts_step : (wanted b : Bool) (labels : ℕ) (text : Targets → ℕ → List Statement) (states : List StatePiece) (at : Targets) (first next : ℕ) →
    texts wanted at (record { is_initial = b; labels = labels; text = text } ∷ states)
    (numbers (record { is_initial = b; labels = labels; text = text } ∷ states) first next)
    ≡ (if is_wanted wanted b then text at (if b then first else next) else []) ++ texts wanted at states
    (numbers states first (if b then next else next + labels))
texts_step wanted true labels text states at first next = refl
texts_step wanted false labels text states at first next = refl

-- the texts of a region's states, the initial one and the others
states_count : (states : List State) → Each CountsState states → (at : Targets) (first next : ℕ) →
    threads_in (texts true at (map low_of_state states) (numbers (map low_of_state states) first next)) + threads_in
    (texts false at (map low_of_state states) (numbers (map low_of_state states) first next))
    ≡ regions_in (map subtree_of_state states)
states_count [] each at first next = refl
states_count (s ∷ states) each at first next = by (low_of_state s).is_initial (λ m. states_count states each.1 at first m)
    (texts_step true (low_of_state s).is_initial (low_of_state s).labels (low_of_state s).text (map low_of_state states) at first next)
    (texts_step false (low_of_state s).is_initial (low_of_state s).labels (low_of_state s).text (map low_of_state states) at first next)
  where
    sum : (b : Bool) → ((m : ℕ) → threads_in (texts true at (map low_of_state states) (numbers (map low_of_state states) first m)) + threads_in
        (texts false at (map low_of_state states) (numbers (map low_of_state states) first m)) ≡ regions_in (map subtree_of_state states)) →
        threads_in ((if is_wanted true b then (low_of_state s).text at (if b then first else next) else []) ++ texts true at (map low_of_state states)
        (numbers (map low_of_state states) first (if b then next else next + (low_of_state s).labels)))
        + threads_in ((if is_wanted false b then (low_of_state s).text at (if b then first else next) else []) ++ texts false at (map low_of_state states)
        (numbers (map low_of_state states) first (if b then next else next + (low_of_state s).labels)))
        ≡ (subtree_of_state s).regions + regions_in (map subtree_of_state states)
    sum true further =
        let a : List Statement = texts true at (map low_of_state states) (numbers (map low_of_state states) first next) in
        let b : List Statement = texts false at (map low_of_state states) (numbers (map low_of_state states) first next) in
        let h : threads_in a + threads_in b ≡ regions_in (map subtree_of_state states) = further next in
        let i : threads_in ((low_of_state s).text at first ++ a) ≡ threads_in ((low_of_state s).text at first) + threads_in a =
        threads_append ((low_of_state s).text at first) a in
        let j : threads_in ((low_of_state s).text at first) ≡ (subtree_of_state s).regions = each.0 at first in
        omega (arith, h, i, j)
    sum false further =
        let m : ℕ = next + (low_of_state s).labels in
        let a : List Statement = texts true at (map low_of_state states) (numbers (map low_of_state states) first m) in
        let b : List Statement = texts false at (map low_of_state states) (numbers (map low_of_state states) first m) in
        let h : threads_in a + threads_in b ≡ regions_in (map subtree_of_state states) = further m in
        let i : threads_in ((low_of_state s).text at next ++ b) ≡ threads_in ((low_of_state s).text at next) + threads_in b =
        threads_append ((low_of_state s).text at next) b in
        let j : threads_in ((low_of_state s).text at next) ≡ (subtree_of_state s).regions = each.0 at next in
        omega (arith, h, i, j)

    by : (b : Bool) → ((m : ℕ) → threads_in (texts true at (map low_of_state states) (numbers (map low_of_state states) first m)) + threads_in
        (texts false at (map low_of_state states) (numbers (map low_of_state states) first m)) ≡ regions_in (map subtree_of_state states)) →
        texts true at (map low_of_state (s ∷ states)) (numbers (map low_of_state (s ∷ states)) first next)
        ≡ (if is_wanted true b then (low_of_state s).text at (if b then first else next) else []) ++ texts true at (map low_of_state states)
        (numbers (map low_of_state states) first (if b then next else next + (low_of_state s).labels)) →
        texts false at (map low_of_state (s ∷ states)) (numbers (map low_of_state (s ∷ states)) first next)
        ≡ (if is_wanted false b then (low_of_state s).text at (if b then first else next) else []) ++ texts false at (map low_of_state states)
        (numbers (map low_of_state states) first (if b then next else next + (low_of_state s).labels)) →
        threads_in (texts true at (map low_of_state (s ∷ states)) (numbers (map low_of_state (s ∷ states)) first next)) + threads_in
        (texts false at (map low_of_state (s ∷ states)) (numbers (map low_of_state (s ∷ states)) first next))
        ≡ regions_in (map subtree_of_state (s ∷ states))
    by b further is_true is_false =
        ap (λ x. threads_in x + threads_in (texts false at (map low_of_state (s ∷ states)) (numbers (map low_of_state (s ∷ states)) first next))) is_true
        ∙ ap (λ y. threads_in ((if is_wanted true b then (low_of_state s).text at (if b then first else next) else []) ++ texts true at
        (map low_of_state states) (numbers (map low_of_state states) first (if b then next else next + (low_of_state s).labels))) + threads_in y)
        is_false ∙ sum b further

region_counts : (variables : List Variable) (levels : ℕ) → ((regions : List Region) → AreRegions features.Core variables levels regions →
    Each CountsRegion regions) →
    (r : Region) → IsRegion features.Core variables (AreRegions features.Core variables levels) r → CountsRegion r
region_counts variables levels inner r h n =
    let states : List State = (out-Region r).states in
    let each : Each CountsState states = each_of CountsState states (λ i s at. state_counts variables levels (length states) inner s (h.states i s at)) in
    let low : List StatePiece = map low_of_state states in
    let ns : List ℕ = numbers low n (n + labels_in_initial low) in
    let end : ℕ = n + labels_in_states low in
    let at : Targets = targets ns end in
    let a : List Statement = texts true at low ns in
    let b : List Statement = texts false at low ns in
    let count : threads_in a + threads_in b ≡ regions_in (map subtree_of_state states) = states_count states each at n (n + labels_in_initial low) in
    let last : threads_in (label end ∷ []) ≡ 0 = first_none (label end) [] (label_none (Rattle.chart_lowering.specs.Lowering.label_name end)) refl in
    let whole : threads_in ((a ++ b) ++ label end ∷ []) ≡ threads_in (a ++ b) + threads_in (label end ∷ []) = threads_append (a ++ b) (label end ∷ []) in
    let more : threads_in (a ++ b) ≡ threads_in a + threads_in b = threads_append a b in
    let sum : suc (threads_in ((a ++ b) ++ label end ∷ [])) ≡ suc (regions_in (map subtree_of_state states)) = omega (arith, count, last, whole, more) in
    ap (λ p. suc (threads_in (p.body n))) (fold_out-Region RegionPiece StatePiece low_region low_state r)
    ∙ sum
    ∙ sym (ap (λ p. p.regions) (fold_out-Region Subtree Subtree region_subtree state_subtree r))

-- regions that nest this many levels deep
pub regions_count : (variables : List Variable) (levels : ℕ) (regions : List Region) → AreRegions features.Core variables levels regions →
    Each CountsRegion regions
regions_count variables zero regions h = subst (Each CountsRegion) (sym h) tt
regions_count variables (suc levels) regions h = each_of CountsRegion regions (λ i r at. region_counts variables levels (regions_count variables levels) r
    (h.each i r at))
