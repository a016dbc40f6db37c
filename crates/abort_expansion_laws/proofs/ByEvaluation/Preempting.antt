-- Rows of core charts: what strong and weak aborts leave of the tick in which they come, and how a superstate ends.
use Rattle.std.proofs.Common.{List, [], ◌∷◌, refl}
use Rattle.sc_graph.specs.declared.program.Variable.{Variable}
use Rattle.core_charts.specs.declared.region.Transition.{Transition}
use Rattle.chart_machine_laws.proofs.ByEvaluation.Charts.{letter_A, letter_n, input, output, of_read, number, becomes}
use Rattle.chart_machine_laws.proofs.ByEvaluation.Charts.{go, strong, weak, join, immediate, only_if, doing}
use Rattle.chart_machine_laws.proofs.ByEvaluation.Charts.{of_number as of_literal}
use Rattle.chart_machine_laws.proofs.ByEvaluation.Told.{on, yes, no, int}
use Rattle.abort_expansion.specs.Pieces.{RegionPiece}
use Rattle.abort_expansion_laws.proofs.ByEvaluation.Expanded.{of_number, of_raised, of_is_number, of_less, of_last, of_too_many}
use Rattle.abort_expansion_laws.proofs.ByEvaluation.Expanded.{of_states, of_regions, and_state, no_state, and_region, no_region, simple, played, Ends}
use Rattle.abort_expansion_laws.proofs.ByEvaluation.Expanded.{initial_state, state, final_state, region, end}

-- input bool A; output int n;
-- region M {
--   initial state S { region P { initial state a { go do n = 1 -> b; } state b; } strong if A -> T; }
--   state T;
-- }
-- and the same with a weak abort
abbrev variables : List Variable
variables = input letter_A ∷ output letter_n ∷ []

abbrev preempted : Transition → List RegionPiece
preempted abort = region (
    initial_state (region (initial_state [] (doing (becomes 1 (number 1) ∷ []) (go 1) ∷ []) ∷ state ∷ []) ∷ []) (only_if 0 abort ∷ [])
    ∷ state
    ∷ []) ∷ []

-- nothing inside goes on in the tick of a strong abort: the monitor, region 3, comes before region 2, which reads its flag
strong_first : Ends variables (preempted (strong 1)) (3 ∷ 2 ∷ 1 ∷ []) (on [] ∷ on (letter_A ∷ []) ∷ [])
    (end (no ∷ int 0 ∷ []) (0 ∷ 1 ∷ []) ∷ end (yes ∷ int 0 ∷ []) (3 ∷ []) ∷ [])
strong_first = played _ _ _ _ _ _
    (and_region _ _ _ _ (of_states (simple _ _ _ refl (and_state _ _ _ _
    (of_regions (and_region _ _ _ _ (of_states (simple _ _ _ refl (simple _ _ _ refl (simple _ _ _ refl no_state))))
    (and_region _ _ _ _ (of_states (simple _ _ _ refl (simple _ _ _ refl no_state))) no_region)))
    (simple _ _ _ refl (simple _ _ _ refl no_state))))) no_region)
    (simp (of_read, of_literal, of_number, of_raised, of_is_number) refl)

-- what is inside goes on in the tick of a weak one, although its flag is raised already
weak_behind : Ends variables (preempted (weak 1)) (3 ∷ 2 ∷ 1 ∷ []) (on [] ∷ on (letter_A ∷ []) ∷ [])
    (end (no ∷ int 0 ∷ []) (0 ∷ 1 ∷ []) ∷ end (yes ∷ int 1 ∷ []) (3 ∷ []) ∷ [])
weak_behind = played _ _ _ _ _ _
    (and_region _ _ _ _ (of_states (simple _ _ _ refl (and_state _ _ _ _
    (of_regions (and_region _ _ _ _ (of_states (simple _ _ _ refl (simple _ _ _ refl (simple _ _ _ refl no_state))))
    (and_region _ _ _ _ (of_states (simple _ _ _ refl (simple _ _ _ refl no_state))) no_region)))
    (simple _ _ _ refl (simple _ _ _ refl no_state))))) no_region)
    (simp (of_read, of_literal, of_number, of_raised, of_is_number) refl)

-- input bool A;
-- region M {
--   initial state S { region P { initial state a { go immediate -> b; } final state b; } weak if A -> S; join -> T; }
--   state T;
-- }
abbrev ending : List RegionPiece
ending = region (
    initial_state (region (initial_state [] (immediate (go 1) ∷ []) ∷ final_state ∷ []) ∷ []) (only_if 0 (weak 0) ∷ join 1 ∷ [])
    ∷ state
    ∷ []) ∷ []

-- where all regions have ended and no abort comes the monitor ends too, and the termination is taken
ended_together : Ends (input letter_A ∷ []) ending (2 ∷ 3 ∷ 1 ∷ []) (on [] ∷ [])
    (end (no ∷ []) (3 ∷ []) ∷ [])
ended_together = played _ _ _ _ _ _
    (and_region _ _ _ _ (of_states (simple _ _ _ refl (and_state _ _ _ _
    (of_regions (and_region _ _ _ _ (of_states (simple _ _ _ refl (simple _ _ _ refl (simple _ _ _ refl no_state))))
    (and_region _ _ _ _ (of_states (simple _ _ _ refl (simple _ _ _ refl no_state))) no_region)))
    (simple _ _ _ refl (simple _ _ _ refl no_state))))) no_region)
    (simp (of_read, of_number, of_raised, of_is_number, of_less, of_last, of_too_many) refl)
