-- Rows of charts: what is left is outside, also what had ended, and what is entered anew begins anew.
use Rattle.std.proofs.Common.{◌≡◌, [], ◌∷◌, refl}
use Rattle.chart_machine.specs.declared.standing.Standing.TheVariants as at
use Rattle.chart_machine.specs.declared.table.Table.{Table}
use Rattle.chart_machine.specs.Table.{Subtree}
use Rattle.chart_machine_laws.proofs.ByEvaluation.Charts.{letter_A, letter_B, input, of_read}
use Rattle.chart_machine_laws.proofs.ByEvaluation.Charts.{go, strong, weak, join, immediate, only_if, initial_state, state, final_state, initial_final_state}
use Rattle.chart_machine_laws.proofs.ByEvaluation.Charts.{region, chart}
use Rattle.chart_machine_laws.proofs.ByEvaluation.Told.{on, yes, no, tick, ticks, standings}

-- input bool A; input bool B;
-- region M {
--   initial state S {
--     region P {
--       initial state a { go if A -> U; }
--       state U { region Q { initial state q { go immediate -> e; } final state e; } }
--     }
--     strong if B -> S;
--   }
-- }
abbrev inside_S : Subtree
inside_S = region (
    initial_state [] (only_if 0 (go 1) ∷ [])
    ∷ state (region (initial_state [] (immediate (go 1) ∷ []) ∷ final_state ∷ []) ∷ []) []
    ∷ [])

abbrev aborted : Table
aborted = chart (input letter_A ∷ input letter_B ∷ []) (region (
    initial_state (inside_S ∷ []) (only_if 1 (strong 0) ∷ [])
    ∷ []) ∷ [])

-- the abort's step drops all, however deep, and enters the regions anew
begins_anew : ticks aborted (1 ∷ 2 ∷ 3 ∷ []) (on [] ∷ on (letter_A ∷ []) ∷ on (letter_B ∷ []) ∷ [])
    ≡ tick [] (no ∷ no ∷ []) (0 ∷ 1 ∷ [])
    ∷ tick (1 ∷ 2 ∷ 3 ∷ []) (yes ∷ no ∷ []) (0 ∷ 2 ∷ [])
    ∷ tick (1 ∷ []) (no ∷ yes ∷ []) (0 ∷ 1 ∷ []) ∷ []
begins_anew = simp of_read refl

had_ended : standings aborted (1 ∷ 2 ∷ 3 ∷ []) (on [] ∷ on (letter_A ∷ []) ∷ []) ≡ at.Within 0 [] ∷ at.Within 2 [] ∷ at.Ended ∷ []
had_ended = simp of_read refl

is_outside : standings aborted (1 ∷ 2 ∷ 3 ∷ []) (on [] ∷ on (letter_A ∷ []) ∷ on (letter_B ∷ []) ∷ [])
    ≡ at.Within 0 [] ∷ at.Trying 1 [] ∷ at.Outside ∷ []
is_outside = simp of_read refl

-- input bool A;
-- region M {
--   initial state S {
--     region P { initial final state a; }
--     region Q { initial state b { go -> c; } final state c; }
--     join -> T;
--   }
--   state T { region R { initial final state d; } weak if A -> U; }
--   state U;
-- }
abbrev left : Table
left = chart (input letter_A ∷ []) (region (
    initial_state (region (initial_final_state ∷ []) ∷ region (initial_state [] (go 1 ∷ []) ∷ final_state ∷ []) ∷ []) (join 1 ∷ [])
    ∷ state (region (initial_final_state ∷ []) ∷ []) (only_if 0 (weak 2) ∷ [])
    ∷ state [] []
    ∷ []) ∷ [])

-- so do a termination and a weak abort
by_termination : standings left (1 ∷ 2 ∷ 3 ∷ 4 ∷ []) (on [] ∷ on [] ∷ []) ≡ at.Within 4 [] ∷ at.Outside ∷ at.Outside ∷ at.Ended ∷ []
by_termination = refl

by_weak_abort : standings left (1 ∷ 2 ∷ 3 ∷ 4 ∷ []) (on [] ∷ on [] ∷ on (letter_A ∷ []) ∷ [])
    ≡ at.Trying 6 [] ∷ at.Outside ∷ at.Outside ∷ at.Outside ∷ []
by_weak_abort = simp of_read refl
