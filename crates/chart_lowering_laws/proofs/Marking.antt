-- The marks of a chart's states: they are made along the project's lowering, and there is one for each row of the table.
use Rattle.std.proofs.Common.{◌≡◌, ℕ, zero, suc, ◌+◌, Bool, true, false, if◌then◌else◌, List, [], ◌∷◌, ◌++◌, map, length, length-append, refl, sym, ap, subst}
use Rattle.std.proofs.Common.{◌∙◌, arith}
use Rattle.sc_graph.specs.declared.program.Variable.{Variable}
use Rattle.sc_text.proofs.EachItem.{Each, each_of}
use Rattle.core_charts.specs.declared.features.Features.TheVariants as features
use Rattle.core_charts.specs.declared.region.Region.{Region}
use Rattle.core_charts.specs.declared.region.State.{State}
use Rattle.core_charts.specs.declared.region.Region.TheViews.{out-Region, out-State}
use Rattle.core_charts.specs.declared.region.Region.TheFolds.{fold_out-Region, fold_out-State, fold-State}
use Rattle.core_charts.specs.Rules.{IsRegion, AreRegions}
use Rattle.chart_machine.specs.Table.{Subtree, states_in, region_subtree, state_subtree, subtree_of_region, subtree_of_state}
use Rattle.chart_lowering.specs.Lowering.{RegionPiece, StatePiece, numbers, labels_in_initial}
use Rattle.chart_lowering.specs.Lowering.{region_piece as low_region, state_piece as low_state, piece_of_region as low_of_region}
use Rattle.chart_lowering.specs.Lowering.{piece_of_state as low_of_state}
use Rattle.chart_lowering_laws.specs.Marks.{Mark, RegionMarks, StateMarks, lows, low_states, marks_beside, marks_among, region_marks, state_marks}
use Rattle.chart_lowering_laws.specs.Marks.{marks_of_region}

abbrev pub marks_of_state : State → StateMarks
marks_of_state = fold-State RegionMarks StateMarks region_marks state_marks

pub record RegionMarked (r : Region) : Type 0 where
  pub same : (marks_of_region r).low ≡ low_of_region r
  pub long : (n : ℕ) → length ((marks_of_region r).marks n) ≡ (subtree_of_region r).states

pub record StateMarked (s : State) : Type 0 where
  pub same : (marks_of_state s).low ≡ low_of_state s
  pub long : (n : ℕ) → length ((marks_of_state s).marks n) ≡ (subtree_of_state s).states

pub lows_same : (regions : List Region) → Each RegionMarked regions → lows (map marks_of_region regions) ≡ map low_of_region regions
lows_same [] h = refl
lows_same (r ∷ regions) h = ap (λ x. x ∷ lows (map marks_of_region regions)) h.0.same ∙ ap (λ xs. low_of_region r ∷ xs) (lows_same regions h.1)

pub low_states_same : (states : List State) → Each StateMarked states → low_states (map marks_of_state states) ≡ map low_of_state states
low_states_same [] h = refl
low_states_same (s ∷ states) h = ap (λ x. x ∷ low_states (map marks_of_state states)) h.0.same ∙ ap (λ xs. low_of_state s ∷ xs) (low_states_same states h.1)

beside_long : (regions : List Region) → Each RegionMarked regions → (n : ℕ) → length (marks_beside (map marks_of_region regions) n) ≡ states_in
    (map subtree_of_region regions)
beside_long [] h n = refl
beside_long (r ∷ regions) h n =
    let rest : List Mark = marks_beside (map marks_of_region regions) (n + (marks_of_region r).low.labels) in
    let one : length ((marks_of_region r).marks n) ≡ (subtree_of_region r).states = h.0.long n in
    let more : length rest ≡ states_in (map subtree_of_region regions) = beside_long regions h.1 (n + (marks_of_region r).low.labels) in
    let both : length ((marks_of_region r).marks n ++ rest) ≡ length ((marks_of_region r).marks n) + length rest =
    length-append ((marks_of_region r).marks n) rest in
    omega (arith, one, more, both)

-- what the numbers give to a list of states, one after the other
abbrev among : List StateMarks → (first next : ℕ) → List Mark
among states first next = marks_among states (numbers (low_states states) first next)

among_long : (states : List State) → Each StateMarked states → (first next : ℕ) → length (among (map marks_of_state states) first next) ≡ states_in
    (map subtree_of_state states)
among_long [] h first next = refl
among_long (s ∷ states) h first next = by (marks_of_state s).low.is_initial (h.0.long) (λ m. among_long states h.1 first m)
  where
    by : (b : Bool) → ((n : ℕ) → length ((marks_of_state s).marks n) ≡ (subtree_of_state s).states) →
        ((m : ℕ) → length (among (map marks_of_state states) first m) ≡ states_in (map subtree_of_state states)) →
        length (marks_among (map marks_of_state (s ∷ states)) (if b then first ∷ numbers (low_states (map marks_of_state states)) first next else next ∷ numbers
        (low_states (map marks_of_state states)) first (next + (marks_of_state s).low.labels)))
        ≡ (subtree_of_state s).states + states_in (map subtree_of_state states)
    by true one rest =
        let a : length ((marks_of_state s).marks first) ≡ (subtree_of_state s).states = one first in
        let b : length (among (map marks_of_state states) first next) ≡ states_in (map subtree_of_state states) = rest next in
        let both : length ((marks_of_state s).marks first ++ among (map marks_of_state states) first next) ≡ length ((marks_of_state s).marks first) + length
        (among (map marks_of_state states) first next) = length-append ((marks_of_state s).marks first) (among (map marks_of_state states) first next) in
        omega (arith, a, b, both)
    by false one rest =
        let m : ℕ = next + (marks_of_state s).low.labels in
        let a : length ((marks_of_state s).marks next) ≡ (subtree_of_state s).states = one next in
        let b : length (among (map marks_of_state states) first m) ≡ states_in (map subtree_of_state states) = rest m in
        let both : length ((marks_of_state s).marks next ++ among (map marks_of_state states) first m) ≡ length ((marks_of_state s).marks next) + length
        (among (map marks_of_state states) first m) = length-append ((marks_of_state s).marks next) (among (map marks_of_state states) first m) in
        omega (arith, a, b, both)

pub state_is_marked : (s : State) → Each RegionMarked (out-State s).regions → StateMarked s
state_is_marked s h = record {
  same =
      ap (λ m. m.low) (fold_out-State RegionMarks StateMarks region_marks state_marks s)
      ∙ ap (λ rs. low_state (record {
        name = (out-State s).name;
        is_initial = (out-State s).is_initial;
        is_final = (out-State s).is_final;
        regions =
            rs;
        transitions = (out-State s).transitions;
      })) (lows_same (out-State s).regions h)
      ∙ sym (fold_out-State RegionPiece StatePiece low_region low_state s);
  long = λ n.
      ap (λ m. length (m.marks n)) (fold_out-State RegionMarks StateMarks region_marks state_marks s)
      ∙ ap suc (beside_long (out-State s).regions h (suc n))
      ∙ sym (ap (λ p. p.states) (fold_out-State Subtree Subtree region_subtree state_subtree s));
}

region_is_marked : (r : Region) → Each StateMarked (out-Region r).states → RegionMarked r
region_is_marked r h = record {
  same =
      ap (λ m. m.low) (fold_out-Region RegionMarks StateMarks region_marks state_marks r)
      ∙ ap (λ ss. low_region (record { name = (out-Region r).name; states = ss })) (low_states_same (out-Region r).states h)
      ∙ sym (fold_out-Region RegionPiece StatePiece low_region low_state r);
  long = λ n.
      ap (λ m. length (m.marks n)) (fold_out-Region RegionMarks StateMarks region_marks state_marks r)
      ∙ among_long (out-Region r).states h n (n + labels_in_initial (low_states (map marks_of_state (out-Region r).states)))
      ∙ sym (ap (λ p. p.states) (fold_out-Region Subtree Subtree region_subtree state_subtree r));
}

pub regions_marked : (variables : List Variable) (levels : ℕ) (regions : List Region) → AreRegions features.Core variables levels regions →
    Each RegionMarked regions
regions_marked variables zero regions h = subst (Each RegionMarked) (sym h) tt
regions_marked variables (suc levels) regions h = each_of RegionMarked regions (λ i r at. one r (h.each i r at) (regions_marked variables levels))
  where
    one : (r : Region) → IsRegion features.Core variables (AreRegions features.Core variables levels) r →
        ((rs : List Region) → AreRegions features.Core variables levels rs → Each RegionMarked rs) → RegionMarked r
    one r rules inner = region_is_marked r
        (each_of StateMarked (out-Region r).states (λ i s at. state_is_marked s (inner (out-State s).regions (rules.states i s at).regions)))
