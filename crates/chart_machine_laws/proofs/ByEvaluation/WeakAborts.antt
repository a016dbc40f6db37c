-- Rows of charts: weak aborts are tested when nobody inside has anything left to do, at entry those that are immediate.
use Rattle.std.proofs.Common.{◌≡◌, [], ◌∷◌, refl}
use Rattle.chart_machine.specs.declared.table.Table.{Table}
use Rattle.chart_machine_laws.proofs.ByEvaluation.Charts.{letter_A, letter_B, input, go, weak, immediate, only_if, initial_state, state, region, chart, of_read}
use Rattle.chart_machine_laws.proofs.ByEvaluation.Told.{on, yes, no, tick, ticks}

-- input bool A; input bool B;
-- region M {
--   initial state S {
--     region P { initial state a { go immediate if B -> b; } state b; }
--     weak if A -> T;
--     weak immediate if B -> U;
--   }
--   state T;
--   state U;
-- }
abbrev several : Table
several = chart (input letter_A ∷ input letter_B ∷ []) (region (
    initial_state (region (initial_state [] (immediate (only_if 1 (go 1)) ∷ []) ∷ state [] [] ∷ []) ∷ [])
    (only_if 0 (weak 1) ∷ immediate (only_if 1 (weak 2)) ∷ [])
    ∷ state [] []
    ∷ state [] []
    ∷ []) ∷ [])

-- at entry one that is immediate is tested, behind the inside, whose order is of no account
taken_at_entry : ticks several (1 ∷ 2 ∷ []) (on (letter_B ∷ []) ∷ []) ≡ tick (2 ∷ 1 ∷ []) (no ∷ yes ∷ []) (4 ∷ []) ∷ []
taken_at_entry = simp of_read refl

-- and none that is not; in a later tick all are, in the order of the text, until one is taken
first_is_taken : ticks several (1 ∷ 2 ∷ []) (on (letter_A ∷ []) ∷ on (letter_A ∷ letter_B ∷ []) ∷ [])
    ≡ tick (2 ∷ 1 ∷ []) (yes ∷ no ∷ []) (0 ∷ 1 ∷ []) ∷ tick (2 ∷ 1 ∷ []) (yes ∷ yes ∷ []) (3 ∷ []) ∷ []
first_is_taken = simp of_read refl

second_is_taken : ticks several (1 ∷ 2 ∷ []) (on [] ∷ on (letter_B ∷ []) ∷ [])
    ≡ tick (2 ∷ 1 ∷ []) (no ∷ no ∷ []) (0 ∷ 1 ∷ []) ∷ tick (2 ∷ 1 ∷ 1 ∷ []) (no ∷ yes ∷ []) (4 ∷ []) ∷ []
second_is_taken = simp of_read refl

none_is_taken : ticks several (1 ∷ 2 ∷ []) (on [] ∷ on [] ∷ [])
    ≡ tick (2 ∷ 1 ∷ []) (no ∷ no ∷ []) (0 ∷ 1 ∷ []) ∷ tick (2 ∷ 1 ∷ 1 ∷ []) (no ∷ no ∷ []) (0 ∷ 1 ∷ []) ∷ []
none_is_taken = simp of_read refl

-- input bool A; input bool B;
-- region M {
--   initial state S {
--     region P {
--       initial state U { region Q { initial state a { go -> a; } } weak if B -> U; }
--     }
--     weak if A -> T;
--   }
--   state T;
-- }
abbrev nested : Table
nested = chart (input letter_A ∷ input letter_B ∷ []) (region (
    initial_state (region (initial_state (region (initial_state [] (go 0 ∷ []) ∷ []) ∷ []) (only_if 1 (weak 0) ∷ []) ∷ []) ∷ [])
    (only_if 0 (weak 1) ∷ [])
    ∷ state [] []
    ∷ []) ∷ [])

-- they wait for all that is inside, however deep, and the inner go first
inner_first : ticks nested (1 ∷ 2 ∷ 3 ∷ []) (on [] ∷ on (letter_B ∷ []) ∷ on (letter_A ∷ []) ∷ [])
    ≡ tick [] (no ∷ no ∷ []) (0 ∷ 1 ∷ 2 ∷ [])
    ∷ tick (3 ∷ 2 ∷ 1 ∷ []) (no ∷ yes ∷ []) (0 ∷ 1 ∷ 2 ∷ [])
    ∷ tick (3 ∷ 2 ∷ 1 ∷ []) (yes ∷ no ∷ []) (3 ∷ []) ∷ []
inner_first = simp of_read refl

-- input bool A;
-- region M {
--   initial state S {
--     region P {
--       initial state U { region Q { initial state a { go -> a; } } }
--     }
--     weak if A -> T;
--   }
--   state T;
-- }
abbrev deep : Table
deep = chart (input letter_A ∷ []) (region (
    initial_state (region (initial_state (region (initial_state [] (go 0 ∷ []) ∷ []) ∷ []) [] ∷ []) ∷ []) (only_if 0 (weak 1) ∷ [])
    ∷ state [] []
    ∷ []) ∷ [])

-- also where a superstate without aborts stands between
waits_from_afar : ticks deep (1 ∷ 2 ∷ 3 ∷ []) (on [] ∷ on (letter_A ∷ []) ∷ [])
    ≡ tick [] (no ∷ []) (0 ∷ 1 ∷ 2 ∷ []) ∷ tick (3 ∷ 1 ∷ []) (yes ∷ []) (3 ∷ []) ∷ []
waits_from_afar = simp of_read refl
