-- Small charts, and the texts to which they are lowered.
use Rattle.std.proofs.Common.{◌≡◌, ℕ, true, false, Option, Some, None, List, [], ◌∷◌, ◌++◌, refl, ap, arith}
use Rattle.std.specs.Prelude.{codes}
use Rattle.std.proofs.lemmas.Fmt.{decimal_digit}
use Rattle.sc_values.specs.declared.expression.Expr.{Expr}
use Rattle.scl.specs.declared.statement.Statement.TheVariants.{Assign, Pause, If, Fork}
use Rattle.core_charts.specs.declared.region.Effect.{Effect}
use Rattle.core_charts.specs.declared.region.Transition.{Transition}
use Rattle.core_charts.specs.declared.region.TransitionKind.TheVariants as kind
use Rattle.chart_lowering.specs.Lowering.{label_name, label, goto, RegionPiece, StatePiece, region_piece, state_piece, root}

-- ---- charts, piece by piece

abbrev region : List StatePiece → RegionPiece
region states = region_piece (record { name = codes "R"; states = states })

abbrev simple : List Transition → StatePiece
simple transitions = state_piece (record { name = codes "S"; is_initial = false; is_final = false; regions = []; transitions = transitions })

abbrev final : StatePiece
final = state_piece (record { name = codes "F"; is_initial = false; is_final = true; regions = []; transitions = [] })

abbrev superstate : List RegionPiece → List Transition → StatePiece
superstate regions transitions =
    state_piece (record { name = codes "S"; is_initial = false; is_final = false; regions = regions; transitions = transitions })

abbrev initial : StatePiece → StatePiece
initial s = record s { is_initial = true }

abbrev go : Option Expr → List Effect → ℕ → Transition
go trigger effects target = record { kind = kind.Go; immediate = false; trigger = trigger; effects = effects; target = target }

abbrev at_once : Transition → Transition
at_once t = record t { immediate = true }

abbrev join : List Effect → ℕ → Transition
join effects target = record { kind = kind.Join; immediate = false; trigger = None; effects = effects; target = target }

abbrev put : ℕ → Expr → Effect
put x e = record { variable = x; value = e }

-- ---- rows

first_label : label_name 1 ≡ codes "_L1"
first_label = ap (λ digits. codes "_L" ++ digits) (decimal_digit 1 (omega arith))

-- two regions that both end: the first at once, the second by a trigger in a later tick
abbrev both_end : Expr → Expr → Expr → List RegionPiece
both_end one two a =
    region
    (initial
    (superstate
    (region (initial (simple (at_once (go None (put 1 one ∷ []) 1) ∷ [])) ∷ final ∷ [])
    ∷ region (initial (simple (go (Some a) (put 1 two ∷ []) 1 ∷ [])) ∷ final ∷ [])
    ∷ [])
    (join [] 1 ∷ []))
    ∷ simple []
    ∷ [])
    ∷ []

both_end_text : (one two a : Expr) → root (both_end one two a) ≡
    Fork
    ((label 1
    ∷ Fork
    ((label 2
    ∷ Assign 1 one
    ∷ goto 3
    ∷ label 3
    ∷ goto 4
    ∷ label 4
    ∷ [])
    ∷ (label 5
    ∷ label 6
    ∷ Pause
    ∷ If a (Assign 1 two ∷ goto 7 ∷ []) []
    ∷ goto 6
    ∷ label 7
    ∷ goto 8
    ∷ label 8
    ∷ [])
    ∷ [])
    ∷ goto 9
    ∷ label 9
    ∷ label 10
    ∷ Pause
    ∷ goto 10
    ∷ label 11
    ∷ [])
    ∷ [])
    ∷ []
both_end_text one two a = refl

-- the initial state stands first in the text, also where it is not the first one of the chart; the others keep their order
initial_first : (a : Expr) → root (region (simple [] ∷ final ∷ initial (simple (go (Some a) [] 0 ∷ [])) ∷ simple [] ∷ []) ∷ []) ≡
    Fork
    ((label 1
    ∷ label 2
    ∷ Pause
    ∷ If a (goto 3 ∷ []) []
    ∷ goto 2
    ∷ label 3
    ∷ label 4
    ∷ Pause
    ∷ goto 4
    ∷ label 5
    ∷ goto 8
    ∷ label 6
    ∷ label 7
    ∷ Pause
    ∷ goto 7
    ∷ label 8
    ∷ [])
    ∷ [])
    ∷ []
initial_first a = refl

-- a final state in first place
final_first : root (region (initial final ∷ []) ∷ []) ≡
    Fork ((label 1 ∷ goto 2 ∷ label 2 ∷ []) ∷ []) ∷ []
final_first = refl

-- a simple state: the immediate transitions stand on its surface, all of them in its depth, in their order
surface_and_depth : (a b c e : Expr)
    → root (region (initial (simple (go (Some a) [] 0 ∷ at_once (go (Some b) (put 2 e ∷ put 3 e ∷ []) 0) ∷ at_once (go (Some c) [] 0) ∷ [])) ∷ []) ∷ []) ≡
    Fork
    ((label 1
    ∷ If b (Assign 2 e ∷ Assign 3 e ∷ goto 1 ∷ []) []
    ∷ If c (goto 1 ∷ []) []
    ∷ label 2
    ∷ Pause
    ∷ If a (goto 1 ∷ []) []
    ∷ If b (Assign 2 e ∷ Assign 3 e ∷ goto 1 ∷ []) []
    ∷ If c (goto 1 ∷ []) []
    ∷ goto 2
    ∷ label 3
    ∷ [])
    ∷ [])
    ∷ []
surface_and_depth a b c e = refl

-- behind a transition without a trigger nothing of the depth is written, not even the goto to the second label
sure_depth : (a b e : Expr) → root (region (initial (simple (go (Some a) [] 0 ∷ go None (put 2 e ∷ []) 0 ∷ go (Some b) [] 0 ∷ [])) ∷ []) ∷ []) ≡
    Fork
    ((label 1
    ∷ label 2
    ∷ Pause
    ∷ If a (goto 1 ∷ []) []
    ∷ Assign 2 e
    ∷ goto 1
    ∷ label 3
    ∷ [])
    ∷ [])
    ∷ []
sure_depth a b e = refl

-- and behind an immediate one neither the second label nor the pause and the depth
sure_surface : (a b e : Expr)
    → root (region (initial
    (simple (go (Some a) [] 0 ∷ at_once (go (Some b) [] 0) ∷ at_once (go None (put 2 e ∷ []) 1) ∷ at_once (go (Some a) [] 0) ∷ [])) ∷ final ∷ []) ∷ []) ≡
    Fork
    ((label 1
    ∷ If b (goto 1 ∷ []) []
    ∷ Assign 2 e
    ∷ goto 2
    ∷ label 2
    ∷ goto 3
    ∷ label 3
    ∷ [])
    ∷ [])
    ∷ []
sure_surface a b e = refl

-- a superstate with a termination, not in first place: its effects stand behind the join
join_effects : (e : Expr) → root (region (superstate (region (initial final ∷ []) ∷ []) (join (put 2 e ∷ []) 1 ∷ []) ∷ initial (simple []) ∷ []) ∷ []) ≡
    Fork
    ((label 1
    ∷ label 2
    ∷ Pause
    ∷ goto 2
    ∷ label 3
    ∷ Fork ((label 4 ∷ goto 5 ∷ label 5 ∷ []) ∷ [])
    ∷ Assign 2 e
    ∷ goto 1
    ∷ label 6
    ∷ [])
    ∷ [])
    ∷ []
join_effects e = refl

-- superstates three deep, the innermost without a termination; the chart's second region goes on with the numbers
three_deep : (e : Expr) → root
    (region (initial (superstate
    (region (initial (superstate (region (initial (superstate (region (initial final ∷ []) ∷ []) []) ∷ []) ∷ []) (join [] 0 ∷ [])) ∷ []) ∷ [])
    (join [] 0 ∷ [])) ∷ [])
    ∷ region (initial final ∷ [])
    ∷ []) ≡
    Fork
    ((label 1
    ∷ Fork
    ((label 2
    ∷ Fork
    ((label 3
    ∷ Fork ((label 4 ∷ goto 5 ∷ label 5 ∷ []) ∷ [])
    ∷ label 6
    ∷ Pause
    ∷ goto 6
    ∷ label 7
    ∷ [])
    ∷ [])
    ∷ goto 2
    ∷ label 8
    ∷ [])
    ∷ [])
    ∷ goto 1
    ∷ label 9
    ∷ [])
    ∷ (label 10 ∷ goto 11 ∷ label 11 ∷ [])
    ∷ [])
    ∷ []
three_deep e = refl
