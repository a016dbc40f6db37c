-- Rows of charts: strong aborts go before weak ones, and these before the termination, however they stand in the text.
use Rattle.std.proofs.Common.{◌≡◌, [], ◌∷◌, refl}
use Rattle.chart_machine.specs.declared.table.Table.{Table}
use Rattle.chart_machine_laws.proofs.ByEvaluation.Charts.{letter_A, letter_B, input, of_read}
use Rattle.chart_machine_laws.proofs.ByEvaluation.Charts.{go, strong, weak, join, only_if, initial_state, state, final_state, region, chart}
use Rattle.chart_machine_laws.proofs.ByEvaluation.Told.{on, yes, no, tick, ticks}

-- input bool A; input bool B;
-- region M {
--   initial state S {
--     region P { initial state a { go -> b; } final state b; }
--     join -> T;
--     weak if A -> U;
--     strong if B -> V;
--   }
--   state T;
--   state U;
--   state V;
-- }
abbrev all_kinds : Table
all_kinds = chart (input letter_A ∷ input letter_B ∷ []) (region (
    initial_state (region (initial_state [] (go 1 ∷ []) ∷ final_state ∷ []) ∷ []) (join 1 ∷ only_if 0 (weak 2) ∷ only_if 1 (strong 3) ∷ [])
    ∷ state [] []
    ∷ state [] []
    ∷ state [] []
    ∷ []) ∷ [])

strong_first : ticks all_kinds (1 ∷ 2 ∷ []) (on [] ∷ on (letter_A ∷ letter_B ∷ []) ∷ [])
    ≡ tick [] (no ∷ no ∷ []) (0 ∷ 1 ∷ []) ∷ tick (1 ∷ []) (yes ∷ yes ∷ []) (5 ∷ []) ∷ []
strong_first = simp of_read refl

weak_next : ticks all_kinds (1 ∷ 2 ∷ []) (on [] ∷ on (letter_A ∷ []) ∷ [])
    ≡ tick [] (no ∷ no ∷ []) (0 ∷ 1 ∷ []) ∷ tick (1 ∷ 2 ∷ 1 ∷ []) (yes ∷ no ∷ []) (4 ∷ []) ∷ []
weak_next = simp of_read refl

termination_last : ticks all_kinds (1 ∷ 2 ∷ []) (on [] ∷ on [] ∷ [])
    ≡ tick [] (no ∷ no ∷ []) (0 ∷ 1 ∷ []) ∷ tick (1 ∷ 2 ∷ 1 ∷ 1 ∷ []) (no ∷ no ∷ []) (3 ∷ []) ∷ []
termination_last = simp of_read refl
