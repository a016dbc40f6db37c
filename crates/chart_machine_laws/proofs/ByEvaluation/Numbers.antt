-- Rows of charts: how states and regions are numbered, and what stands around whom.
use Rattle.std.proofs.Common.{◌≡◌, [], ◌∷◌, refl}
use Rattle.std.specs.Prelude.{map}
use Rattle.chart_machine.specs.declared.table.Table.{Table}
use Rattle.chart_machine_laws.proofs.ByEvaluation.Charts.{go, initial_state, state, region, chart}
use Rattle.chart_machine_laws.proofs.ByEvaluation.Told.{on, tick, ticks}

-- region M {
--   state T { region R { initial state r; } }
--   initial state S {
--     region P { state x; initial state y { go -> x; } }
--     region Q { initial state U { region V { initial state z; } } }
--   }
-- }
-- region N { initial state c { go -> d; } state d; }
abbrev numbered : Table
numbered = chart [] (region (
    state (region (initial_state [] [] ∷ []) ∷ []) []
    ∷ initial_state (region (state [] [] ∷ initial_state [] (go 0 ∷ []) ∷ []) ∷ region (initial_state (region (initial_state [] [] ∷ []) ∷ []) [] ∷ []) ∷ [])
    []
    ∷ []) ∷ region (
    initial_state [] (go 1 ∷ [])
    ∷ state [] []
    ∷ []) ∷ [])

-- states in the order of the text; of regions those inside the initial state come before those inside the others
states_of_regions : map (λ r. r.states) numbered.regions
    ≡ (0 ∷ 2 ∷ []) ∷ (3 ∷ 4 ∷ []) ∷ (5 ∷ []) ∷ (6 ∷ []) ∷ (1 ∷ []) ∷ (7 ∷ 8 ∷ []) ∷ []
states_of_regions = refl

around_regions : map (λ r. r.around) numbered.regions ≡ [] ∷ (2 ∷ []) ∷ (2 ∷ []) ∷ (5 ∷ 2 ∷ []) ∷ (0 ∷ []) ∷ [] ∷ []
around_regions = refl

holders : map (λ s. s.holder) numbered.states ≡ 1 ∷ 5 ∷ 1 ∷ 2 ∷ 2 ∷ 3 ∷ 4 ∷ 6 ∷ 6 ∷ []
holders = refl

regions_of_states : map (λ s. s.regions) numbered.states
    ≡ (5 ∷ []) ∷ [] ∷ (2 ∷ 3 ∷ []) ∷ [] ∷ [] ∷ (4 ∷ []) ∷ [] ∷ [] ∷ [] ∷ []
regions_of_states = refl

-- an initial state need not stand first; all regions of the chart are entered, and each of them steps
both_step : ticks numbered (6 ∷ 5 ∷ 4 ∷ 3 ∷ 2 ∷ 1 ∷ []) (on [] ∷ on [] ∷ [])
    ≡ tick [] [] (2 ∷ 4 ∷ 5 ∷ 6 ∷ 7 ∷ []) ∷ tick (6 ∷ 2 ∷ []) [] (2 ∷ 3 ∷ 5 ∷ 6 ∷ 8 ∷ []) ∷ []
both_step = refl
