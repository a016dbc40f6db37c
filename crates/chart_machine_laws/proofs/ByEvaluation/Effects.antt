-- Rows of charts: a transition that is taken does its effects in order, a step each, before its target is entered.
use Rattle.std.proofs.Common.{◌≡◌, [], ◌∷◌, refl}
use Rattle.chart_machine.specs.declared.table.Table.{Table}
use Rattle.chart_machine_laws.proofs.ByEvaluation.Charts.{letter_m, letter_n, output, read, number, becomes, of_read, of_number}
use Rattle.chart_machine_laws.proofs.ByEvaluation.Charts.{go, immediate, doing, initial_state, state, region, chart}
use Rattle.chart_machine_laws.proofs.ByEvaluation.Told.{on, int, tick, ticks}

-- output int n; output int m;
-- region M {
--   initial state a { go immediate do n = 1, m = n -> b; }
--   state b { go do n = 2 -> b; }
-- }
abbrev counting : Table
counting = chart (output letter_n ∷ output letter_m ∷ []) (region (
    initial_state [] (immediate (doing (becomes 0 (number 1) ∷ becomes 1 (read 0) ∷ []) (go 1)) ∷ [])
    ∷ state [] (doing (becomes 0 (number 2) ∷ []) (go 1) ∷ [])
    ∷ []) ∷ [])

-- each is done over what those before it left, and variables that are no inputs stay until the next tick
in_order : ticks counting (1 ∷ []) (on [] ∷ on [] ∷ [])
    ≡ tick (1 ∷ 1 ∷ 1 ∷ []) (int 1 ∷ int 1 ∷ []) (1 ∷ []) ∷ tick (1 ∷ 1 ∷ []) (int 2 ∷ int 1 ∷ []) (1 ∷ []) ∷ []
in_order = simp (of_read, of_number) refl
