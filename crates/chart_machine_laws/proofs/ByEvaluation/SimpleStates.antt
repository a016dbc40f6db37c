-- Rows of charts: simple states test transitions in the order of the text, when they are entered those that are immediate.
use Rattle.std.proofs.Common.{◌≡◌, [], ◌∷◌, refl}
use Rattle.chart_machine.specs.declared.standing.Standing.TheVariants as at
use Rattle.chart_machine.specs.declared.table.Table.{Table}
use Rattle.chart_machine_laws.proofs.ByEvaluation.Charts.{letter_A, letter_B, input, of_read}
use Rattle.chart_machine_laws.proofs.ByEvaluation.Charts.{go, immediate, only_if, initial_state, state, final_state, region, chart}
use Rattle.chart_machine_laws.proofs.ByEvaluation.Told.{on, yes, no, tick, ticks, standings}

-- input bool A;
-- region M {
--   initial state a { go -> b; go immediate if A -> c; go immediate -> d; }
--   state b;
--   state c;
--   state d;
-- }
abbrev entered : Table
entered = chart (input letter_A ∷ []) (region (
    initial_state [] (go 1 ∷ immediate (only_if 0 (go 2)) ∷ immediate (go 3) ∷ [])
    ∷ state [] []
    ∷ state [] []
    ∷ state [] []
    ∷ []) ∷ [])

-- the first whose trigger is true is taken; one without a trigger is true
first_at_entry : ticks entered (1 ∷ []) (on (letter_A ∷ []) ∷ []) ≡ tick (1 ∷ []) (yes ∷ []) (2 ∷ []) ∷ []
first_at_entry = simp of_read refl

second_at_entry : ticks entered (1 ∷ []) (on [] ∷ []) ≡ tick (1 ∷ 1 ∷ []) (no ∷ []) (3 ∷ []) ∷ []
second_at_entry = simp of_read refl

-- input bool A; input bool B;
-- region M {
--   initial state a { go if A -> b; go if B -> c; }
--   state b { go immediate -> d; }
--   state c;
--   state d;
-- }
abbrev waited : Table
waited = chart (input letter_A ∷ input letter_B ∷ []) (region (
    initial_state [] (only_if 0 (go 1) ∷ only_if 1 (go 2) ∷ [])
    ∷ state [] (immediate (go 3) ∷ [])
    ∷ state [] []
    ∷ state [] []
    ∷ []) ∷ [])

-- who waited tests all; the target is entered in the same tick
first_later : ticks waited (1 ∷ []) (on (letter_A ∷ letter_B ∷ []) ∷ on (letter_A ∷ letter_B ∷ []) ∷ [])
    ≡ tick [] (yes ∷ yes ∷ []) (0 ∷ []) ∷ tick (1 ∷ 1 ∷ []) (yes ∷ yes ∷ []) (3 ∷ []) ∷ []
first_later = simp of_read refl

second_later : ticks waited (1 ∷ []) (on [] ∷ on (letter_B ∷ []) ∷ [])
    ≡ tick [] (no ∷ no ∷ []) (0 ∷ []) ∷ tick (1 ∷ 1 ∷ []) (no ∷ yes ∷ []) (2 ∷ []) ∷ []
second_later = simp of_read refl

-- and waits again where none is taken
waits_again : ticks waited (1 ∷ []) (on [] ∷ on [] ∷ on (letter_A ∷ []) ∷ [])
    ≡ tick [] (no ∷ no ∷ []) (0 ∷ [])
    ∷ tick (1 ∷ 1 ∷ []) (no ∷ no ∷ []) (0 ∷ [])
    ∷ tick (1 ∷ 1 ∷ []) (yes ∷ no ∷ []) (3 ∷ []) ∷ []
waits_again = simp of_read refl

-- region M {
--   initial state a { go immediate -> b; }
--   final state b;
-- }
abbrev ending : Table
ending = chart [] (region (initial_state [] (immediate (go 1) ∷ []) ∷ final_state ∷ []) ∷ [])

-- a final state ends its region, and is no active state
ends : ticks ending (1 ∷ []) (on [] ∷ on [] ∷ []) ≡ tick (1 ∷ []) [] [] ∷ tick [] [] [] ∷ []
ends = refl

has_ended : standings ending (1 ∷ []) (on [] ∷ []) ≡ at.Ended ∷ []
has_ended = refl
