-- Rows of core charts: a superstate that is entered again is as it was when it was entered first.
use Rattle.std.proofs.Common.{List, [], ◌∷◌, refl}
use Rattle.sc_graph.specs.declared.program.Variable.{Variable}
use Rattle.core_charts.specs.declared.region.Transition.{Transition}
use Rattle.chart_machine_laws.proofs.ByEvaluation.Charts.{letter_A, input, of_read, weak, only_if}
use Rattle.chart_machine_laws.proofs.ByEvaluation.Told.{on, yes, no}
use Rattle.abort_expansion.specs.Pieces.{RegionPiece}
use Rattle.abort_expansion_laws.proofs.ByEvaluation.Expanded.{of_number, of_raised, of_is_number}
use Rattle.abort_expansion_laws.proofs.ByEvaluation.Expanded.{of_states, of_regions, and_state, no_state, and_region, no_region, simple, played, Ends}
use Rattle.abort_expansion_laws.proofs.ByEvaluation.Expanded.{initial_state, region, end}

-- input bool A;
-- region M { initial state S { region P { initial state a; } weak if A -> S; } }
abbrev variables : List Variable
variables = input letter_A ∷ []

abbrev entered_anew : Transition → List RegionPiece
entered_anew abort = region (initial_state (region (initial_state [] [] ∷ []) ∷ []) (only_if 0 abort ∷ []) ∷ []) ∷ []

-- the flag of a weak abort is lowered in the tick in which it is taken, and nothing of what is entered is left
weak_lowered : Ends variables (entered_anew (weak 0)) (3 ∷ 2 ∷ 1 ∷ []) (on [] ∷ on (letter_A ∷ []) ∷ [])
    (end (no ∷ []) (0 ∷ 1 ∷ []) ∷ end (yes ∷ []) (0 ∷ 1 ∷ []) ∷ [])
weak_lowered = played _ _ _ _ _ _
    (and_region _ _ _ _ (of_states (simple _ _ _ refl (and_state _ _ _ _
    (of_regions (and_region _ _ _ _ (of_states (simple _ _ _ refl (simple _ _ _ refl no_state)))
    (and_region _ _ _ _ (of_states (simple _ _ _ refl (simple _ _ _ refl no_state))) no_region)))
    (simple _ _ _ refl no_state)))) no_region)
    (simp (of_read, of_number, of_raised, of_is_number) refl)
