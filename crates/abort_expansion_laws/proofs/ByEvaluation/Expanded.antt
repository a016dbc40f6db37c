-- How the rows write the chart whose text stands above them, as pieces that are expanded, and what they tell of the ticks of its
-- core chart: the variables of the chart and its active states.
use Rattle.std.proofs.Common.{ℕ, ◌≡◌, Bool, true, false, Option, Some, List, [], ◌∷◌, ◌++◌, refl, ap, sym, ◌∙◌, arith}
use Rattle.std.specs.Prelude.{slice_get, map, take, length, pos, negsuc, ◌-ℤ◌, option_and_then}
use Rattle.std.specs.Int.{int_wrap, w32}
use Rattle.std.proofs.lemmas.Int.{int_wrap_fits, fits_signed_from_abs}
use Rattle.sc_values.specs.declared.value.Value.{Value}
use Rattle.sc_values.specs.declared.value.Value.TheVariants as value
use Rattle.sc_values.specs.declared.operator.BinaryOperator.{BinaryOperator}
use Rattle.sc_values.specs.declared.operator.BinaryOperator.TheVariants as operator
use Rattle.sc_values.specs.declared.expression.Expr.TheVariants as expr
use Rattle.sc_values.specs.declared.expression.Expr.TheVariants.{rolls-Literal, rolls-Load, rolls-Binary}
use Rattle.sc_values.specs.Operator.{binary_value}
use Rattle.sc_values.specs.Expr.{value as value_of}
use Rattle.sc_values.proofs.Induction.{value-literal, value-load, value-binary}
use Rattle.sc_graph.specs.declared.program.Variable.{Variable}
use Rattle.sc_graph.specs.Tick.{Inputs}
use Rattle.core_charts.specs.declared.region.Transition.{Transition}
use Rattle.core_charts.specs.declared.region.Region.TheOpen.{Region-F, State-F}
use Rattle.core_charts.specs.declared.region.Region.TheViews.{roll-Region, roll-State}
use Rattle.core_charts.specs.declared.region.Region.TheFolds.{fold-roll-Region, fold-roll-State}
use Rattle.core_charts.specs.declared.region.Region.{Region}
use Rattle.core_charts.specs.declared.region.State.{State}
use Rattle.chart_machine.specs.declared.table.Table.{Table}
use Rattle.chart_machine.specs.Table.{Subtree, table_over, side_by_side, whole, subtree_of_region, subtree_of_state}
use Rattle.chart_machine.specs.Table.{region_subtree as played_region, state_subtree as played_state}
use Rattle.chart_machine_laws.proofs.ByEvaluation.Told.{Tick, ticks}
use Rattle.abort_expansion.specs.Transitions.{number, is_number, is_raised, count_down}
use Rattle.abort_expansion.specs.Pieces.{RegionPiece, StatePiece}
use Rattle.abort_expansion.specs.declared.pieces.Regions.{Regions}
use Rattle.abort_expansion.specs.Expansion.{state_piece, region_piece, all_expanded}

-- what the expressions of core charts come to: numbers, and a variable beside a number
pub of_number : (n : ℕ) (vs : List Value) → value_of (number n) vs ≡ Some (value.Int (pos n))
of_number n vs = ap (λ e. value_of e vs) (sym (rolls-Literal (value.Int (pos n)))) ∙ value-literal (value.Int (pos n)) vs

of_variable : (x : ℕ) (vs : List Value) → value_of (expr.Load x) vs ≡ slice_get vs x
of_variable x vs = ap (λ e. value_of e vs) (sym (rolls-Load x)) ∙ value-load x vs

compared : (f : BinaryOperator) (x n : ℕ) (vs : List Value) →
    value_of (expr.Binary f (expr.Load x) (number n)) vs ≡ option_and_then (λ v. binary_value f v (value.Int (pos n))) (slice_get vs x)
compared f x n vs =
    ap (λ e. value_of e vs) (sym (rolls-Binary f (expr.Load x) (number n)))
    ∙ value-binary f (expr.Load x) (number n) vs
    ∙ ap (option_and_then (λ v. option_and_then (binary_value f v) (value_of (number n) vs))) (of_variable x vs)
    ∙ ap (λ o. option_and_then (λ v. option_and_then (binary_value f v) o) (slice_get vs x)) (of_number n vs)

pub of_raised : (x : ℕ) (vs : List Value) →
    value_of (is_raised x) vs ≡ option_and_then (λ v. binary_value operator.NotEqual v (value.Int (pos 0))) (slice_get vs x)
of_raised x vs = compared operator.NotEqual x 0 vs

pub of_is_number : (x n : ℕ) (vs : List Value) →
    value_of (is_number x n) vs ≡ option_and_then (λ v. binary_value operator.Equal v (value.Int (pos n))) (slice_get vs x)
of_is_number x n vs = compared operator.Equal x n vs

pub of_less : (x : ℕ) (vs : List Value) →
    value_of (count_down x).value vs ≡ option_and_then (λ v. binary_value operator.Subtract v (value.Int (pos 1))) (slice_get vs x)
of_less x vs = compared operator.Subtract x 1 vs

-- where one is counted down, and where none is left to be
pub of_last : int_wrap w32 (pos 1 -ℤ pos 1) ≡ pos 0
of_last = int_wrap_fits w32 (pos 0) (fits_signed_from_abs w32 (pos 0) (omega arith))

pub of_too_many : int_wrap w32 (pos 0 -ℤ pos 1) ≡ negsuc 0
of_too_many = int_wrap_fits w32 (negsuc 0) (fits_signed_from_abs w32 (negsuc 0) (omega arith))

-- the pieces as which states and regions of the core chart are played: of each what it is, and of what is inside it the pieces
abbrev pub piece_over_state : State-F Region State → List Subtree → Subtree
piece_over_state s inside = played_state (record {
  name = s.name;
  is_initial = s.is_initial;
  is_final = s.is_final;
  regions = inside;
  transitions = s.transitions;
})

abbrev pub piece_over_region : Region-F Region State → List Subtree → Subtree
piece_over_region r inside = played_region (record { name = r.name; states = inside })

pub data AreStates : List State → List Subtree → Type 0 where
  no_state : AreStates [] []
  and_state : (s : State-F Region State) (inside : List Subtree) (ss : List State) (ps : List Subtree) → map subtree_of_region s.regions ≡ inside →
      AreStates ss ps → AreStates (roll-State s ∷ ss) (piece_over_state s inside ∷ ps)

pub data AreRegions : List Region → List Subtree → Type 0 where
  no_region : AreRegions [] []
  and_region : (r : Region-F Region State) (inside : List Subtree) (rs : List Region) (ps : List Subtree) → map subtree_of_state r.states ≡ inside →
      AreRegions rs ps → AreRegions (roll-Region r ∷ rs) (piece_over_region r inside ∷ ps)

pub of_states : {ss : List State} {ps : List Subtree} → AreStates ss ps → map subtree_of_state ss ≡ ps
of_states no_state = refl
of_states (and_state s inside ss ps is rest) =
    rw (fold-roll-State Subtree Subtree played_region played_state s, is, of_states rest) refl

pub of_regions : {rs : List Region} {ps : List Subtree} → AreRegions rs ps → map subtree_of_region rs ≡ ps
of_regions no_region = refl
of_regions (and_region r inside rs ps is rest) =
    rw (fold-roll-Region Subtree Subtree played_region played_state r, is, of_regions rest) refl

-- a state without regions, and what is behind it
pub simple : (s : State-F Region State) (ss : List State) (ps : List Subtree) → map subtree_of_region s.regions ≡ [] → AreStates ss ps →
    AreStates (roll-State s ∷ ss) (piece_over_state s [] ∷ ps)
simple s ss ps none rest = and_state s [] ss ps none rest

-- a state, initial or not, with its regions and transitions
abbrev pub a_state : Bool → Bool → List RegionPiece → List Transition → StatePiece
a_state is_initial is_final regions transitions = state_piece (record {
  name = [];
  is_initial = is_initial;
  is_final = is_final;
  regions = regions;
  transitions = transitions;
})

abbrev pub initial_state : List RegionPiece → List Transition → StatePiece
initial_state = a_state true false

abbrev pub state : StatePiece
state = a_state false false [] []

abbrev pub final_state : StatePiece
final_state = a_state false true [] []

abbrev pub region : List StatePiece → RegionPiece
region states = region_piece (record { name = []; states = states })

-- behind a tick: the variables of the chart, and its active states
pub record End : Type 0 where
  pub variables : List Value
  pub active : List ℕ

abbrev pub end : List Value → List ℕ → End
end variables active = record { variables = variables; active = active }

-- those for which these core states stand
abbrev pub standing_for : Option (Option ℕ) → List ℕ → List ℕ
standing_for (Some (Some s)) rest = s ∷ rest
standing_for other rest = rest

abbrev pub shown : List (Option ℕ) → List ℕ → List ℕ
shown stands_for [] = []
shown stands_for (s ∷ active) = standing_for (slice_get stands_for s) (shown stands_for active)

abbrev pub end_of : ℕ → List (Option ℕ) → Tick → End
end_of declared stands_for t = end (take declared t.variables) (shown stands_for t.active)

-- the ends of ticks of the core chart of such regions, by these inputs and an order of its regions
abbrev pub ends_of_table : ℕ → List (Option ℕ) → Table → List ℕ → List Inputs → List End
ends_of_table declared stands_for k order inputs = map (end_of declared stands_for) (ticks k order inputs)

abbrev pub ends_over : List Variable → Regions → List Subtree → List ℕ → List Inputs → List End
ends_over variables core pieces =
    ends_of_table (length variables) core.stands_for (table_over (variables ++ core.variables) (side_by_side pieces whole))

abbrev pub core : List Variable → List RegionPiece → Regions
core variables regions = all_expanded (length variables) regions

pub record Ends (variables : List Variable) (regions : List RegionPiece) (order : List ℕ) (inputs : List Inputs) (told : List End) : Type 0 where
  pub are : ends_over variables (core variables regions) (map subtree_of_region (core variables regions).regions) order inputs ≡ told

pub played : (variables : List Variable) (regions : List RegionPiece) (order : List ℕ) (inputs : List Inputs) (told : List End)
    (pieces : List Subtree) → AreRegions (core variables regions).regions pieces →
    ends_over variables (core variables regions) pieces order inputs ≡ told → Ends variables regions order inputs told
played variables regions order inputs told pieces are gives = record {
  are = ap (λ ps. ends_over variables (core variables regions) ps order inputs) (of_regions are) ∙ gives;
}
