-- What variables were at the end of the tick before: of each of these a variable that has it, and a register. One more
-- region puts the variable into the register when a tick ends, and hands it over when the next one begins.
use Rattle.std.specs.Prelude.{ℕ, suc, ◌+◌, Option, Some, None, List, [], ◌∷◌, ◌++◌, slice_get, length, codes, true, false, if◌then◌else◌}
use Rattle.sc_values.specs.declared.value.Value.{Value}
use Rattle.sc_values.specs.declared.value.Kind.{Kind}
use Rattle.sc_values.specs.declared.value.Kind.TheVariants as of_kind
use Rattle.core_charts.specs.declared.region.Effect.{Effect}
use Rattle.extended_charts.specs.declared.extended.Declared.{Declared}
use Rattle.extended_charts.specs.declared.extended.ExtendedChart.{ExtendedChart}
use Rattle.extended_charts.specs.declared.extended.ExtendedRegion.{ExtendedRegion}
use Rattle.extended_charts.specs.declared.extended.ExtendedState.{ExtendedState}
use Rattle.sc_text.specs.MadeNames.{numbered}
use Rattle.extended_charts.specs.Making.{has_some, local, copy, passing, all_passing, region}

-- ---- variables

abbrev pub kind_of : Option Declared → Kind
kind_of (Some d) = d.variable.kind
kind_of None = of_kind.Int

abbrev pub initial_of : Option Declared → Option Value
initial_of (Some d) = d.initial
initial_of None = None

-- what each variable was, from number k on; before the first tick what it holds first
abbrev pub before_variables : List Declared → (k : ℕ) → (befores : List ℕ) → List Declared
before_variables variables k [] = []
before_variables variables k (x ∷ befores) =
    local (numbered (codes "pre__") k) (kind_of (slice_get variables x)) (initial_of (slice_get variables x)) ∷
    before_variables variables (suc k) befores

-- the registers
abbrev pub registers : List Declared → (k : ℕ) → (befores : List ℕ) → List Declared
registers variables k [] = []
registers variables k (x ∷ befores) =
    local (numbered (codes "register__") k) (kind_of (slice_get variables x)) None ∷
    registers variables (suc k) befores

-- ---- the region

-- each register, from this number on, becomes what its variable is
abbrev pub storing : (register : ℕ) → (befores : List ℕ) → List Effect
storing register [] = []
storing register (x ∷ befores) = copy register x ∷ storing (suc register) befores

-- as many variables from this number on become what their registers, from this number on, are
abbrev pub handing : (before register : ℕ) → (befores : List ℕ) → List Effect
handing before register [] = []
handing before register (x ∷ befores) = copy before register ∷ handing (suc before) (suc register) befores

-- it stores, waits for the next tick, hands over, and begins anew
abbrev pub ring : (count : ℕ) → (stored handed : List Effect) → List ExtendedState
ring count stored handed =
    all_passing 0 stored ++
    passing false count [] (suc count) ∷
    all_passing (suc count) handed ++
    passing true (suc count + count) [] 0 ∷ []

-- in a chart with so many variables
abbrev pub register_states : (variables : ℕ) → (befores : List ℕ) → List ExtendedState
register_states variables befores =
    ring (length befores)
    (storing (variables + length befores) befores)
    (handing variables (variables + length befores) befores)

abbrev pub register_region : (variables : ℕ) → (befores : List ℕ) → ExtendedRegion
register_region variables befores = region (codes "registers__1") (register_states variables befores)

abbrev pub registered : ExtendedChart → ExtendedChart
registered c =
    record c {
      variables = c.variables ++ before_variables c.variables 1 c.befores ++ registers c.variables 1 c.befores;
      befores = [];
      regions = c.regions ++ register_region (length c.variables) c.befores ∷ [];
    }

-- the chart in which variables have what variables were
abbrev pub with_registers : ExtendedChart → ExtendedChart
with_registers c = if has_some c.befores then registered c else c
