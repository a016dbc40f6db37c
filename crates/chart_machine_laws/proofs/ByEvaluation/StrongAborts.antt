-- Rows of charts: strong aborts are tested before anything inside steps, at entry those that are immediate.
use Rattle.std.proofs.Common.{◌≡◌, [], ◌∷◌, refl}
use Rattle.chart_machine.specs.declared.table.Table.{Table}
use Rattle.chart_machine_laws.proofs.ByEvaluation.Charts.{letter_A, letter_B, input, of_read}
use Rattle.chart_machine_laws.proofs.ByEvaluation.Charts.{go, strong, immediate, only_if, initial_state, state, region, chart}
use Rattle.chart_machine_laws.proofs.ByEvaluation.Told.{on, yes, no, tick, ticks}

-- input bool A;
-- region M {
--   initial state S { region P { initial state a { go immediate if A -> b; } state b; } strong immediate if A -> T; }
--   state T;
-- }
abbrev at_once : Table
at_once = chart (input letter_A ∷ []) (region (
    initial_state (region (initial_state [] (immediate (only_if 0 (go 1)) ∷ []) ∷ state [] [] ∷ []) ∷ []) (immediate (only_if 0 (strong 1)) ∷ [])
    ∷ state [] []
    ∷ []) ∷ [])

-- one that is immediate is tested at entry: where it is taken nothing inside is entered
taken_at_entry : ticks at_once (1 ∷ 2 ∷ []) (on (letter_A ∷ []) ∷ []) ≡ tick (1 ∷ []) (yes ∷ []) (3 ∷ []) ∷ []
taken_at_entry = simp of_read refl

-- where it is not, the inside is entered; and in each later tick it is tested before the inside
taken_later : ticks at_once (2 ∷ 1 ∷ []) (on [] ∷ on [] ∷ on (letter_A ∷ []) ∷ [])
    ≡ tick (1 ∷ 2 ∷ []) (no ∷ []) (0 ∷ 1 ∷ [])
    ∷ tick (1 ∷ 2 ∷ []) (no ∷ []) (0 ∷ 1 ∷ [])
    ∷ tick (1 ∷ []) (yes ∷ []) (3 ∷ []) ∷ []
taken_later = simp of_read refl

-- input bool A; input bool B;
-- region M {
--   initial state S { region P { initial state a; } strong if A -> T; strong immediate if B -> U; strong if B -> S; }
--   state T;
--   state U;
-- }
abbrev several : Table
several = chart (input letter_A ∷ input letter_B ∷ []) (region (
    initial_state (region (initial_state [] [] ∷ []) ∷ []) (only_if 0 (strong 1) ∷ immediate (only_if 1 (strong 2)) ∷ only_if 1 (strong 0) ∷ [])
    ∷ state [] []
    ∷ state [] []
    ∷ []) ∷ [])

-- at entry none that is not immediate is tested
not_at_entry : ticks several (1 ∷ 2 ∷ []) (on (letter_A ∷ []) ∷ []) ≡ tick (1 ∷ []) (yes ∷ no ∷ []) (0 ∷ 1 ∷ []) ∷ []
not_at_entry = simp of_read refl

-- in a later tick all are, in the order of the text, until one is taken
first_is_taken : ticks several (1 ∷ 2 ∷ []) (on [] ∷ on (letter_A ∷ letter_B ∷ []) ∷ [])
    ≡ tick (1 ∷ []) (no ∷ no ∷ []) (0 ∷ 1 ∷ []) ∷ tick (1 ∷ []) (yes ∷ yes ∷ []) (2 ∷ []) ∷ []
first_is_taken = simp of_read refl

second_is_taken : ticks several (1 ∷ 2 ∷ []) (on [] ∷ on (letter_B ∷ []) ∷ [])
    ≡ tick (1 ∷ []) (no ∷ no ∷ []) (0 ∷ 1 ∷ []) ∷ tick (1 ∷ 1 ∷ []) (no ∷ yes ∷ []) (3 ∷ []) ∷ []
second_is_taken = simp of_read refl

none_is_taken : ticks several (1 ∷ 2 ∷ []) (on [] ∷ on [] ∷ [])
    ≡ tick (1 ∷ []) (no ∷ no ∷ []) (0 ∷ 1 ∷ []) ∷ tick (1 ∷ 1 ∷ 1 ∷ []) (no ∷ no ∷ []) (0 ∷ 1 ∷ []) ∷ []
none_is_taken = simp of_read refl

-- input bool A; input bool B;
-- region M {
--   initial state S {
--     region P {
--       initial state U { region Q { initial state a { go -> a; } } strong if B -> U; }
--     }
--     strong if A -> T;
--   }
--   state T;
-- }
abbrev nested : Table
nested = chart (input letter_A ∷ input letter_B ∷ []) (region (
    initial_state (region (initial_state (region (initial_state [] (go 0 ∷ []) ∷ []) ∷ []) (only_if 1 (strong 0) ∷ []) ∷ []) ∷ [])
    (only_if 0 (strong 1) ∷ [])
    ∷ state [] []
    ∷ []) ∷ [])

-- who is inside waits for all of them, however deep it lies, and the outer go first
outer_first : ticks nested (3 ∷ 2 ∷ 1 ∷ []) (on [] ∷ on [] ∷ on (letter_B ∷ []) ∷ on (letter_A ∷ letter_B ∷ []) ∷ [])
    ≡ tick [] (no ∷ no ∷ []) (0 ∷ 1 ∷ 2 ∷ [])
    ∷ tick (1 ∷ 2 ∷ 3 ∷ []) (no ∷ no ∷ []) (0 ∷ 1 ∷ 2 ∷ [])
    ∷ tick (1 ∷ 2 ∷ []) (no ∷ yes ∷ []) (0 ∷ 1 ∷ 2 ∷ [])
    ∷ tick (1 ∷ []) (yes ∷ yes ∷ []) (3 ∷ []) ∷ []
outer_first = simp of_read refl

-- input bool A;
-- region M {
--   initial state S {
--     region P {
--       initial state U { region Q { initial state a { go -> a; } } }
--     }
--     strong if A -> T;
--   }
--   state T;
-- }
abbrev deep : Table
deep = chart (input letter_A ∷ []) (region (
    initial_state (region (initial_state (region (initial_state [] (go 0 ∷ []) ∷ []) ∷ []) [] ∷ []) ∷ []) (only_if 0 (strong 1) ∷ [])
    ∷ state [] []
    ∷ []) ∷ [])

-- also where a superstate without aborts stands between
guarded_from_afar : ticks deep (3 ∷ 2 ∷ 1 ∷ []) (on [] ∷ on [] ∷ on (letter_A ∷ []) ∷ [])
    ≡ tick [] (no ∷ []) (0 ∷ 1 ∷ 2 ∷ [])
    ∷ tick (1 ∷ 3 ∷ []) (no ∷ []) (0 ∷ 1 ∷ 2 ∷ [])
    ∷ tick (1 ∷ []) (yes ∷ []) (3 ∷ []) ∷ []
guarded_from_afar = simp of_read refl
