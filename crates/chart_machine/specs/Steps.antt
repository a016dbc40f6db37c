-- One step of a region: one test of a trigger, or one effect. Entering a state is part of the last of these.
use Rattle.std.specs.Prelude.{ℕ, Bool, true, Option, Some, None, List, [], ◌∷◌, ◌++◌, map, slice_get, slice_set, unwrap_or, option_map, option_and_then}
use Rattle.std.specs.Prelude.{if◌then◌else◌}
use Rattle.sc_values.specs.declared.expression.Expr.{Expr}
use Rattle.sc_values.specs.declared.value.Value.{Value}
use Rattle.sc_values.specs.declared.value.Value.TheVariants as value
use Rattle.sc_values.specs.Operator.{kind_of}
use Rattle.sc_values.specs.Expr.{value as value_of}
use Rattle.sc_values.specs.Access.{Access, Nothing, no_access}
use Rattle.sc_values.specs.Assignment.{reads, assignment_of, access_of_assignment}
use Rattle.sc_graph.specs.Steps.{only_if, takes_kind}
use Rattle.chart_machine.specs.declared.region_change.RegionChange.{RegionChange}
use Rattle.chart_machine.specs.declared.region_change.Write.{Write}
use Rattle.core_charts.specs.declared.region.Effect.{Effect}
use Rattle.core_charts.specs.declared.region.Transition.{Transition}
use Rattle.chart_machine.specs.declared.standing.Standing.{Standing}
use Rattle.chart_machine.specs.declared.standing.Standing.TheVariants as at
use Rattle.chart_machine.specs.declared.standing.Move.{Move}
use Rattle.chart_machine.specs.declared.standing.Configuration.{Configuration}
use Rattle.chart_machine.specs.declared.table.Table.{Table}
use Rattle.core_charts.specs.Tests.{closing_tests, first_closing_tests}
use Rattle.chart_machine.specs.Table.{state_at, region_at}
use Rattle.chart_machine.specs.Turns.{standing_of, inside, is_enabled}

-- region r comes to stand there
abbrev pub to : ℕ → Standing → Move
to r s = record { region = r; standing = s }

abbrev pub moved : List Move → List Standing → List Standing
moved [] regions = regions
moved (m ∷ moves) regions = moved moves (slice_set regions m.region m.standing)

-- what a step writes, if anything
abbrev pub written : Option Write → List Value → List Value
written None variables = variables
written (Some w) variables = slice_set variables w.variable w.value

abbrev pub after : RegionChange → Configuration → Configuration
after d c = record { variables = written d.write c.variables; regions = moved d.moves c.regions }

abbrev pub truth : Value → Option Bool
truth (value.Bool b) = Some b
truth (value.Int n) = None

-- a missing trigger is true
abbrev pub verdict : List Value → Option Expr → Option Bool
verdict variables None = Some true
verdict variables (Some e) = option_and_then truth (value_of e variables)

-- the state of this place among those of region r
abbrev pub state_in : Table → ℕ → ℕ → ℕ
state_in k r place = unwrap_or (slice_get (region_at k r).states place) 0

-- all that is inside is dropped, without a step
abbrev pub dropped : Table → ℕ → List Move
dropped k s = map (λ r. to r at.Outside) (inside k s)

-- goes on with the effects of a transition out of state s, or enters its target
abbrev pub acts : Table → ℕ → ℕ → List Effect → ℕ → List Move
acts k r s [] target = (state_at k (state_in k r target)).entered
acts k r s (e ∷ effects) target = to r (at.Acting s (e ∷ effects) target) ∷ []

-- takes a transition out of state s
abbrev pub taken : Table → ℕ → ℕ → Transition → List Move
taken k r s t = dropped k s ++ acts k r s t.effects t.target

-- a test: where it is true its transition is taken, else these moves are made
abbrev pub tested : Table → Configuration → ℕ → ℕ → Transition → List Move → Option RegionChange
tested k c r s t otherwise =
    option_map (λ holds. record { write = None; moves = if holds then taken k r s t else otherwise })
    (verdict c.variables t.trigger)

-- the regions of a superstate are entered, when no strong abort was taken
abbrev pub entering_on : Table → ℕ → ℕ → List Transition → List Move
entering_on k r s [] = to r (at.Within s (first_closing_tests (state_at k s).transitions)) ∷ (state_at k s).opened
entering_on k r s (t ∷ tests) = to r (at.Entering s (t ∷ tests)) ∷ []

-- the inside has its turn, when no strong abort was taken
abbrev pub guarding_on : Table → ℕ → ℕ → List Transition → List Move
guarding_on k r s [] = to r (at.Within s (closing_tests (state_at k s).transitions)) ∷ []
guarding_on k r s (t ∷ tests) = to r (at.Guarding s (t ∷ tests)) ∷ []

abbrev pub effected : Table → ℕ → ℕ → Effect → List Effect → ℕ → Value → Option RegionChange
effected k r s e effects target v =
    only_if (takes_kind (option_map (λ x. x.kind) (slice_get k.variables e.variable)) (kind_of v))
    (Some (record { write = Some (record { variable = e.variable; value = v }); moves = acts k r s effects target }))

abbrev pub change_of : Table → Configuration → ℕ → Standing → Option RegionChange
change_of k c r (at.Trying s (t ∷ tests)) = tested k c r s t (to r (at.Trying s tests) ∷ [])
change_of k c r (at.Entering s (t ∷ tests)) = tested k c r s t (entering_on k r s tests)
change_of k c r (at.Guarding s (t ∷ tests)) = tested k c r s t (guarding_on k r s tests)
change_of k c r (at.Within s (t ∷ tests)) = tested k c r s t (to r (at.Within s tests) ∷ [])
change_of k c r (at.Acting s (e ∷ effects) target) =
    option_and_then (effected k r s e effects target) (value_of e.value c.variables)
change_of k c r other = None

-- None where the region isn't enabled or its step is undefined
abbrev pub step : Table → ℕ → Configuration → Option Configuration
step k r c = only_if (is_enabled k c r) (option_map (λ d. after d c) (change_of k c r (standing_of c r)))

abbrev pub access_of_trigger : Option Expr → Access
access_of_trigger None = no_access
access_of_trigger (Some e) = record { reads = reads e; writes = Nothing }

abbrev pub access_of : Standing → Access
access_of (at.Trying s (t ∷ tests)) = access_of_trigger t.trigger
access_of (at.Entering s (t ∷ tests)) = access_of_trigger t.trigger
access_of (at.Guarding s (t ∷ tests)) = access_of_trigger t.trigger
access_of (at.Within s (t ∷ tests)) = access_of_trigger t.trigger
access_of (at.Acting s (e ∷ effects) target) = access_of_assignment e.variable (assignment_of e.variable e.value)
access_of other = no_access
