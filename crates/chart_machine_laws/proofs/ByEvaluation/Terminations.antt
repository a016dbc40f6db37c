-- Rows of charts: a termination is taken when all regions have ended, in the tick of entry too; without one a superstate rests.
use Rattle.std.proofs.Common.{◌≡◌, [], ◌∷◌, refl}
use Rattle.core_charts.specs.declared.region.Transition.{Transition}
use Rattle.chart_machine.specs.declared.table.Table.{Table}
use Rattle.chart_machine.specs.Table.{Subtree}
use Rattle.chart_machine_laws.proofs.ByEvaluation.Charts.{letter_A, input, of_read}
use Rattle.chart_machine_laws.proofs.ByEvaluation.Charts.{go, weak, join, immediate, only_if, initial_state, state, final_state, initial_final_state, region}
use Rattle.chart_machine_laws.proofs.ByEvaluation.Charts.{chart}
use Rattle.chart_machine_laws.proofs.ByEvaluation.Told.{on, yes, no, tick, ticks}

-- region M {
--   initial state S { region P { initial final state a; } join -> T; }
--   state T;
-- }
abbrev ended : Table
ended = chart [] (region (initial_state (region (initial_final_state ∷ []) ∷ []) (join 1 ∷ []) ∷ state [] [] ∷ []) ∷ [])

-- an initial state that is final has ended its region at once, and the termination is taken in the tick of entry
taken_at_entry : ticks ended (1 ∷ 2 ∷ []) (on [] ∷ []) ≡ tick (1 ∷ []) [] (2 ∷ []) ∷ []
taken_at_entry = refl

-- input bool A;
-- region M {
--   initial state S {
--     region P { initial state a { go immediate -> b; } final state b; }
--     region Q { initial state c { go immediate if A -> d; } final state d; }
--     join -> T;
--   }
--   state T;
-- }
abbrev begins_with : Transition → Subtree
begins_with t = region (initial_state [] (immediate t ∷ []) ∷ final_state ∷ [])

abbrev two : Table
two = chart (input letter_A ∷ []) (region (
    initial_state (begins_with (go 1) ∷ begins_with (only_if 0 (go 1)) ∷ []) (join 1 ∷ [])
    ∷ state [] []
    ∷ []) ∷ [])

-- it waits until all regions have ended, those that ended in an earlier tick too
waits_for_all : ticks two (1 ∷ 2 ∷ 3 ∷ []) (on [] ∷ on [] ∷ on (letter_A ∷ []) ∷ [])
    ≡ tick (2 ∷ 3 ∷ []) (no ∷ []) (0 ∷ 3 ∷ [])
    ∷ tick (3 ∷ []) (no ∷ []) (0 ∷ 3 ∷ [])
    ∷ tick (3 ∷ 1 ∷ []) (yes ∷ []) (5 ∷ []) ∷ []
waits_for_all = simp of_read refl

-- input bool A;
-- region M {
--   initial state S { region P { initial final state a; } weak if A -> T; }
--   state T;
-- }
abbrev resting : Table
resting = chart (input letter_A ∷ []) (region (
    initial_state (region (initial_final_state ∷ []) ∷ []) (only_if 0 (weak 1) ∷ [])
    ∷ state [] []
    ∷ []) ∷ [])

-- without a termination the superstate rests, and its aborts are still tested
rests : ticks resting (1 ∷ 2 ∷ []) (on [] ∷ on [] ∷ on (letter_A ∷ []) ∷ [])
    ≡ tick [] (no ∷ []) (0 ∷ []) ∷ tick (1 ∷ []) (no ∷ []) (0 ∷ []) ∷ tick (1 ∷ []) (yes ∷ []) (2 ∷ []) ∷ []
rests = simp of_read refl
