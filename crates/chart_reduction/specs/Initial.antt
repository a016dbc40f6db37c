-- Initial values: where a variable has one other than `false` and 0, states set them before all regions, which a superstate
-- behind them holds.
use Rattle.std.specs.Prelude.{ℕ, suc, pos, Bool, false, not, Option, Some, None, List, [], ◌∷◌, ◌++◌, codes, if◌then◌else◌}
use Rattle.std.specs.Ordering.{int_eq}
use Rattle.sc_values.specs.declared.value.Value.{Value}
use Rattle.sc_values.specs.declared.value.Value.TheVariants as value
use Rattle.core_charts.specs.declared.region.Effect.{Effect}
use Rattle.extended_charts.specs.declared.extended.Declared.{Declared}
use Rattle.extended_charts.specs.declared.extended.ExtendedChart.{ExtendedChart}
use Rattle.extended_charts.specs.declared.extended.ExtendedRegion.{ExtendedRegion}
use Rattle.extended_charts.specs.Making.{has_some, literal, made_state, all_passing, region}

-- whether a variable holds it anyway
abbrev pub is_default : Value → Bool
is_default (value.Bool b) = not b
is_default (value.Int n) = int_eq n (pos 0)

abbrev pub setting : ℕ → Option Value → List Effect
setting x (Some v) = if is_default v then [] else record { variable = x; value = literal v } ∷ []
setting x None = []

-- the assignments of the initial values, to variables from number x on
abbrev pub settings : (x : ℕ) → List Declared → List Effect
settings x [] = []
settings x (d ∷ others) = setting x d.initial ++ settings (suc x) others

-- regions before which these assignments are made
abbrev pub framed : List Effect → List ExtendedRegion → List ExtendedRegion
framed effects regions =
    if has_some effects
    then region (codes "whole__1") (all_passing 0 effects ++ made_state (codes "whole__1") false regions [] ∷ []) ∷ []
    else regions

-- the chart that sets the initial values of its variables
abbrev pub with_settings : ExtendedChart → ExtendedChart
with_settings c = record c { regions = framed (settings 0 c.variables) c.regions }
