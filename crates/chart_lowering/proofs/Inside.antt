-- Transitions and states, as pieces of a thread's text.
use Rattle.std.proofs.Common.{◌≡◌, ℕ, zero, suc, ◌+◌, ◌≤◌, inl, inr, Bool, true, false, IsTrue, if◌then◌else◌, Option, Some, None, List, [], ◌∷◌, ◌++◌, map}
use Rattle.std.proofs.Common.{length, slice_get, unwrap_or, refl, ap, sym, subst, arith}
use Rattle.std.specs.Str.{bytes_eq}
use Rattle.sc_values.specs.declared.expression.Expr.{Expr}
use Rattle.sc_values.specs.declared.value.Kind.TheVariants as kind_is
use Rattle.sc_graph.specs.declared.program.Variable.{Variable}
use Rattle.sc_graph.specs.Limits.{child_limit}
use Rattle.sc_text.specs.Parts.{IsExpression}
use Rattle.scl.specs.declared.statement.Statement.{Statement}
use Rattle.scl.specs.declared.statement.Statement.TheOpen as text
use Rattle.scl.specs.declared.statement.Statement.TheVariants as statement
use Rattle.scl.specs.Rules.{Part, nothing, both, part, part_of, side_by_side, is_in, thread, IsAssignment}
use Rattle.core_charts.specs.declared.region.Effect.{Effect}
use Rattle.core_charts.specs.declared.region.Transition.{Transition}
use Rattle.core_charts.specs.Rules.{IsEffect, kinds_of}
use Rattle.core_charts.specs.Tests.{at_once, terminations}
use Rattle.sc_text.proofs.EachItem.{Each}
use Rattle.chart_lowering.specs.declared.targets.Targets.{Targets}
use Rattle.chart_lowering.specs.Lowering.{label_name, label, goto, label_at, assignment, taken, tested, transitions, is_sure, leaves_surely, RegionPiece}
use Rattle.chart_lowering.specs.Lowering.{labels_in, labels_of_simple, branches, depth, simple, final, behind, superstate, labels_behind}
use Rattle.chart_lowering.proofs.Parts.{part_of_assign, part_of_label, part_of_goto, part_of_pause, part_of_if, part_of_fork, row, row_append}
use Rattle.chart_lowering.proofs.Pieces.{IsPiece, or_left, or_right, or_cases, name_itself, both_pieces, empty_piece, label_piece, goto_piece, assign_piece}
use Rattle.chart_lowering.proofs.Pieces.{if_piece, fork_piece, widened, narrowed}

-- a statement, and behind it a text whose labels have the next numbers
pub first_piece : (variables : List Variable) (targets : List (List ℕ)) (deep most from m n mid size : ℕ) (s : Statement) (rest : List Statement) (p : Part)
    → mid ≡ from + m → size ≡ m + n → part_of s ≡ p
    → IsPiece variables targets deep most from m p → IsPiece variables targets deep most mid n (row rest)
    → IsPiece variables targets deep most from size (row (s ∷ rest))
first_piece variables targets deep most from m n mid size s rest p is_mid is_size is a b =
    both_pieces variables targets deep most from m n mid size (part_of s) (row rest) is_mid is_size
    (subst (λ q. IsPiece variables targets deep most from m q) (sym is) a) b

-- a text, and behind it another whose labels have the next numbers
pub append_piece : (variables : List Variable) (targets : List (List ℕ)) (deep most from m n mid size : ℕ) (left right : List Statement)
    → mid ≡ from + m → size ≡ m + n
    → IsPiece variables targets deep most from m (row left) → IsPiece variables targets deep most mid n (row right)
    → IsPiece variables targets deep most from size (row (left ++ right))
append_piece variables targets deep most from m n mid size left right is_mid is_size a b =
    subst (λ q. IsPiece variables targets deep most from size q) (sym (row_append left right))
    (both_pieces variables targets deep most from m n mid size (row left) (row right) is_mid is_size a b)

-- a text begins with its first label
pub begins_with : (n : ℕ) (rest : List Statement) → IsTrue (is_in (row (label n ∷ rest)).labels (label_name n))
begins_with n rest =
    subst (λ p. IsTrue (is_in (both p (row rest)).labels (label_name n))) (sym (part_of_label (label_name n)))
    (or_left (bytes_eq (label_name n) (label_name n)) (is_in (row rest).labels (label_name n)) (name_itself (label_name n)))

-- ---- transitions

-- where the states of a region go
abbrev pub targets_of : Targets → List (List ℕ)
targets_of at = at.end ∷ at.states

found_there : (names : List (List ℕ)) (end : List ℕ) (place : ℕ) → IsTrue (is_in (end ∷ names) (unwrap_or (slice_get names place) end))
found_there [] end place = or_left (bytes_eq end end) false (name_itself end)
found_there (name ∷ names) end zero =
    or_right (bytes_eq end name) (is_in (name ∷ names) name) (or_left (bytes_eq name name) (is_in names name) (name_itself name))
found_there (name ∷ names) end (suc place) =
    let wanted : List ℕ = unwrap_or (slice_get names place) end in
    elim (or_cases (bytes_eq end wanted) (is_in names wanted) (found_there names end place)) [
      | inl there ↦ or_left (bytes_eq end wanted) (is_in (name ∷ names) wanted) there
      | inr later ↦ or_right (bytes_eq end wanted) (is_in (name ∷ names) wanted) (or_right (bytes_eq name wanted) (is_in names wanted) later)
    ]

pub is_target : (at : Targets) (place : ℕ) → IsTrue (is_in (targets_of at) (label_at at place))
is_target at place = found_there at.states at.end place

-- what the rules say of a transition's trigger and effects
pub record IsTaken (variables : List Variable) (t : Transition) : Type 0 where
  pub trigger : (e : Expr) → t.trigger ≡ Some e → IsExpression (kinds_of variables) kind_is.Bool e
  pub effects : Each (IsEffect variables) t.effects

an_assignment : (variables : List Variable) (e : Effect) → IsEffect variables e → IsAssignment variables e.variable e.value
an_assignment variables e h = record { variable = h.target; is_there = h.is_target; no_input = h.no_input; becomes = h.value }

effects_piece : (variables : List Variable) (targets : List (List ℕ)) (deep most from : ℕ) (effects : List Effect) → Each (IsEffect variables) effects
    → IsPiece variables targets deep most from 0 (row (map assignment effects))
effects_piece variables targets deep most from [] h = empty_piece variables targets deep most from
effects_piece variables targets deep most from (e ∷ effects) h =
    first_piece variables targets deep most from 0 0 from 0 (assignment e) (map assignment effects) (part (text.Assign e.variable e.value))
    (omega arith) (omega arith) (part_of_assign e.variable e.value)
    (assign_piece variables targets deep most from e.variable e.value (an_assignment variables e h.0))
    (effects_piece variables targets deep most from effects h.1)

goto_row : (variables : List Variable) (targets : List (List ℕ)) (deep most from : ℕ) (name : List ℕ) → IsTrue (is_in targets name)
    → IsPiece variables targets deep most from 0 (row (statement.Goto name ∷ []))
goto_row variables targets deep most from name there =
    first_piece variables targets deep most from 0 0 from 0 (statement.Goto name) [] (part (text.Goto name))
    (omega arith) (omega arith) (part_of_goto name) (goto_piece variables targets deep most from name there) (empty_piece variables targets deep most from)

pub taken_piece : (variables : List Variable) (targets : List (List ℕ)) (deep most from : ℕ) (at : Targets) (t : Transition)
    → ((place : ℕ) → IsTrue (is_in targets (label_at at place))) → IsTaken variables t
    → IsPiece variables targets deep most from 0 (row (taken at t))
taken_piece variables targets deep most from at t reach h =
    append_piece variables targets deep most from 0 0 from 0 (map assignment t.effects) (statement.Goto (label_at at t.target) ∷ [])
    (omega arith) (omega arith) (effects_piece variables targets deep most from t.effects h.effects)
    (goto_row variables targets deep most from (label_at at t.target) (reach t.target))

tested_piece : (variables : List Variable) (targets : List (List ℕ)) (deep from size : ℕ) (trigger : Option Expr) (does rest : List Statement) (surely : Bool)
    → ((e : Expr) → trigger ≡ Some e → IsExpression (kinds_of variables) kind_is.Bool e)
    → IsPiece variables targets deep 0 from 0 (row does)
    → IsPiece variables targets deep 1 from (if surely then 0 else size) (row rest)
    → IsPiece variables targets deep 1 from (if (if is_sure trigger then true else surely) then 0 else size) (row (tested trigger does rest))
tested_piece variables targets deep from size None does rest surely h a b =
    widened variables targets deep deep 0 1 from 0 (row does) (omega arith) (omega arith) a
tested_piece variables targets deep from size (Some e) does rest surely h a b =
    let n : ℕ = if surely then 0 else size in
    first_piece variables targets deep 1 from 0 n from n (statement.If e does []) rest (part (text.If e (map part_of does) []))
    (omega arith) (omega arith) (part_of_if e does [])
    (if_piece variables targets deep from e (map part_of does) (h e refl) a) b

pub transitions_piece : (variables : List Variable) (targets : List (List ℕ)) (deep from size : ℕ) (at : Targets) (all : List Transition)
    (rest : List Statement)
    → ((place : ℕ) → IsTrue (is_in targets (label_at at place))) → Each (IsTaken variables) all
    → IsPiece variables targets deep 1 from size (row rest)
    → IsPiece variables targets deep 1 from (if leaves_surely all then 0 else size) (row (transitions at all rest))
transitions_piece variables targets deep from size at [] rest reach h a = a
transitions_piece variables targets deep from size at (t ∷ all) rest reach h a =
    tested_piece variables targets deep from size t.trigger (taken at t) (transitions at all rest) (leaves_surely all)
    h.0.trigger (taken_piece variables targets deep 0 from at t reach h.0)
    (transitions_piece variables targets deep from size at all rest reach h.1 a)

-- ---- states

none_either_way : (b : Bool) → ◌≡◌ {A = ℕ} (if b then 0 else 0) 0
none_either_way true = refl
none_either_way false = refl

label_first : (variables : List Variable) (targets : List (List ℕ)) (deep n m size : ℕ) (rest : List Statement) → size ≡ 1 + m
    → IsPiece variables targets deep 1 (n + 1) m (row rest) → IsPiece variables targets deep 1 n size (row (label n ∷ rest))
label_first variables targets deep n m size rest is_size a =
    first_piece variables targets deep 1 n 1 m (n + 1) size (label n) rest (part (text.Label (label_name n)))
    refl is_size (part_of_label (label_name n)) (label_piece variables targets deep 1 n) a

pub depth_piece : (variables : List Variable) (deep n : ℕ) (at : Targets) (all : List Transition) → Each (IsTaken variables) all
    → IsPiece variables (targets_of at) deep 1 n 1 (row (depth at all n))
depth_piece variables deep n at all h =
    let here : List ℕ = label_name n in
    let targets : List (List ℕ) = here ∷ targets_of at in
    let rest : List Statement = transitions at all (goto n ∷ []) in
    let again : IsPiece variables targets deep 1 (n + 1) 0 (row (goto n ∷ [])) =
    goto_row variables targets deep 1 (n + 1) here (or_left (bytes_eq here here) (is_in (targets_of at) here) (name_itself here)) in
    let tests : IsPiece variables targets deep 1 (n + 1) 0 (row rest) =
    subst (λ size. IsPiece variables targets deep 1 (n + 1) size (row rest)) (none_either_way (leaves_surely all))
    (transitions_piece variables targets deep (n + 1) 0 at all (goto n ∷ [])
    (λ place. or_right (bytes_eq here (label_at at place)) (is_in (targets_of at) (label_at at place)) (is_target at place)) h again) in
    let paused : IsPiece variables targets deep 1 (n + 1) 0 (row (statement.Pause ∷ rest)) =
    first_piece variables targets deep 1 (n + 1) 0 0 (n + 1) 0 statement.Pause rest nothing
    (omega arith) (omega arith) part_of_pause (empty_piece variables targets deep 1 (n + 1)) tests in
    narrowed variables here (targets_of at) deep 1 n 1 (row (depth at all n)) (begins_with n (statement.Pause ∷ rest))
    (label_first variables targets deep n 0 1 (statement.Pause ∷ rest) (omega arith) paused)

one_or_two : (b : Bool) → ◌≡◌ {A = ℕ} (if b then 1 else 2) (1 + (if b then 0 else 1))
one_or_two true = refl
one_or_two false = refl

pub simple_piece : (variables : List Variable) (deep n : ℕ) (at : Targets) (all : List Transition)
    → Each (IsTaken variables) all → Each (IsTaken variables) (at_once all)
    → IsPiece variables (targets_of at) deep 1 n (labels_of_simple all) (row (simple at all n))
simple_piece variables deep n at all h k =
    let sure : Bool = leaves_surely (at_once all) in
    label_first variables (targets_of at) deep n (if sure then 0 else 1) (if sure then 1 else 2) (transitions at (at_once all) (depth at all (suc n)))
    (one_or_two sure)
    (transitions_piece variables (targets_of at) deep (n + 1) 1 at (at_once all) (depth at all (suc n)) (is_target at) k
    (subst (λ m. IsPiece variables (targets_of at) deep 1 m 1 (row (depth at all (suc n)))) (omega arith) (depth_piece variables deep (suc n) at all h)))

pub final_piece : (variables : List Variable) (deep n : ℕ) (at : Targets) → IsPiece variables (targets_of at) deep 1 n 1 (row (final at n))
final_piece variables deep n at =
    label_first variables (targets_of at) deep n 0 1 (statement.Goto at.end ∷ []) (omega arith)
    (goto_row variables (targets_of at) deep 1 (n + 1) at.end (or_left (bytes_eq at.end at.end) (is_in at.states at.end) (name_itself at.end)))

-- what is known of a region's body: that it is a piece, seen from outside, wherever its numbers begin
pub record IsBody (variables : List Variable) (deep : ℕ) (r : RegionPiece) : Type 0 where
  pub piece : (targets : List (List ℕ)) (n : ℕ) → IsPiece variables targets deep 0 n r.labels (thread (row (r.body n)))

branches_piece : (variables : List Variable) (targets : List (List ℕ)) (deep n : ℕ) (regions : List RegionPiece) → Each (IsBody variables deep) regions
    → IsPiece variables targets deep 0 n (labels_in regions) (side_by_side (map (map part_of) (branches regions n)))
branches_piece variables targets deep n [] h = empty_piece variables targets deep 0 n
branches_piece variables targets deep n (r ∷ regions) h =
    both_pieces variables targets deep 0 n r.labels (labels_in regions) (n + r.labels) (r.labels + labels_in regions)
    (thread (row (r.body n))) (side_by_side (map (map part_of) (branches regions (n + r.labels)))) refl refl
    (h.0.piece targets n) (branches_piece variables targets deep (n + r.labels) regions h.1)

branch_count : (regions : List RegionPiece) (n : ℕ) → length (map (map part_of) (branches regions n)) ≡ length regions
branch_count [] n = refl
branch_count (r ∷ regions) n = ap suc (branch_count regions (n + r.labels))

-- a fork of regions
pub fork_row : (variables : List Variable) (targets : List (List ℕ)) (deep n m mid size : ℕ) (regions : List RegionPiece) (rest : List Statement)
    → mid ≡ n + labels_in regions → size ≡ labels_in regions + m
    → 1 ≤ length regions → length regions ≤ child_limit → Each (IsBody variables deep) regions
    → IsPiece variables targets (suc deep) 1 mid m (row rest)
    → IsPiece variables targets (suc deep) 1 n size (row (statement.Fork (branches regions n) ∷ rest))
fork_row variables targets deep n m mid size regions rest is_mid is_size some few h a =
    let forked : List (List Part) = map (map part_of) (branches regions n) in
    let count : _ = branch_count regions n in
    first_piece variables targets (suc deep) 1 n (labels_in regions) m mid size (statement.Fork (branches regions n)) rest (part (text.Fork forked))
    is_mid is_size (part_of_fork (branches regions n))
    (fork_piece variables targets deep 1 n (labels_in regions) forked (omega (arith, count, some)) (omega (arith, count, few))
    (widened variables targets deep deep 0 1 n (labels_in regions) (side_by_side forked) (omega arith) (omega arith)
    (branches_piece variables targets deep n regions h)))
    a

behind_piece : (variables : List Variable) (deep n : ℕ) (at : Targets) (joins : List Transition) → Each (IsTaken variables) joins
    → IsPiece variables (targets_of at) deep 1 n (labels_behind joins) (row (behind at joins n))
behind_piece variables deep n at [] h = depth_piece variables deep n at [] tt
behind_piece variables deep n at (join ∷ others) h = taken_piece variables (targets_of at) deep 1 n at join (is_target at) h.0

pub superstate_piece : (variables : List Variable) (deep n : ℕ) (at : Targets) (regions : List RegionPiece) (all : List Transition)
    → 1 ≤ length regions → length regions ≤ child_limit → Each (IsBody variables deep) regions → Each (IsTaken variables) (terminations all)
    → IsPiece variables (targets_of at) (suc deep) 1 n (suc (labels_in regions + labels_behind (terminations all))) (row (superstate at regions all n))
superstate_piece variables deep n at regions all some few h k =
    let last : ℕ = labels_behind (terminations all) in
    let rest : List Statement = behind at (terminations all) (suc n + labels_in regions) in
    label_first variables (targets_of at) (suc deep) n (labels_in regions + last) (suc (labels_in regions + last))
    (statement.Fork (branches regions (suc n)) ∷ rest) (omega arith)
    (subst (λ m. IsPiece variables (targets_of at) (suc deep) 1 m (labels_in regions + last) (row (statement.Fork (branches regions (suc n)) ∷ rest)))
    (omega arith)
    (fork_row variables (targets_of at) deep (suc n) last (suc n + labels_in regions) (labels_in regions + last) regions rest refl refl some few h
    (behind_piece variables (suc deep) (suc n + labels_in regions) at (terminations all) k)))
