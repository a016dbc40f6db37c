-- The transitions that expansion makes.
use Rattle.std.specs.Prelude.{ℕ, suc, pos, Bool, true, false, Option, Some, None, List, [], ◌∷◌, ◌++◌, slice_get, unwrap_or, flat_map, if◌then◌else◌}
use Rattle.sc_values.specs.declared.value.Value.TheVariants as value
use Rattle.sc_values.specs.declared.operator.BinaryOperator.TheVariants as operator
use Rattle.sc_values.specs.declared.expression.Expr.{Expr}
use Rattle.sc_values.specs.declared.expression.Expr.TheVariants as expr
use Rattle.core_charts.specs.declared.region.Effect.{Effect}
use Rattle.core_charts.specs.declared.region.Transition.{Transition}
use Rattle.core_charts.specs.declared.region.TransitionKind.TheVariants as kind
use Rattle.abort_expansion.specs.declared.flags.Flags.{Flags}
use Rattle.abort_expansion.specs.declared.places.RegionPlaces.{RegionPlaces}

abbrev pub number : ℕ → Expr
number n = expr.Literal (value.Int (pos n))

-- the variable is n, or is not 0
abbrev pub is_number : ℕ → ℕ → Expr
is_number x n = expr.Binary operator.Equal (expr.Load x) (number n)

abbrev pub is_raised : ℕ → Expr
is_raised x = expr.Binary operator.NotEqual (expr.Load x) (number 0)

-- the variable becomes n, or one less
abbrev pub put : ℕ → ℕ → Effect
put x n = record { variable = x; value = number n }

abbrev pub count_down : ℕ → Effect
count_down x = record { variable = x; value = expr.Binary operator.Subtract (expr.Load x) (number 1) }

-- the effects on a variable, where it is there
abbrev pub on : Option ℕ → (ℕ → Effect) → List Effect
on (Some x) effect = effect x ∷ []
on None effect = []

abbrev pub go : Bool → Option Expr → List Effect → ℕ → Transition
go immediate trigger effects target =
    record { kind = kind.Go; immediate = immediate; trigger = trigger; effects = effects; target = target }

-- ---- abort-flag checks: for each enclosing superstate whose flag is raised, to the abandoned state

abbrev pub check : Bool → (left : ℕ) → Option ℕ → List Transition
check immediate left (Some x) = go immediate (Some (is_raised x)) [] left ∷ []
check immediate left None = []

abbrev pub strong_checks : Bool → (left : ℕ) → List Flags → List Transition
strong_checks immediate left around = flat_map (λ f. check immediate left f.strong) around

abbrev pub weak_checks : Bool → (left : ℕ) → List Flags → List Transition
weak_checks immediate left around = flat_map (λ f. check immediate left f.weak) around

-- ---- transitions to states of the text

-- a transition to a final state counts down, as its last effect
abbrev pub counting : RegionPlaces → (target : ℕ) → List Effect → List Effect
counting at target effects =
    if unwrap_or (slice_get at.finals target) false then effects ++ on at.counter count_down else effects

abbrev pub place_of : RegionPlaces → (target : ℕ) → ℕ
place_of at target = unwrap_or (slice_get at.states target) 0

-- a transition as it stands, to where its target is
abbrev pub led : RegionPlaces → Transition → Transition
led at t = record t { effects = counting at t.target t.effects; target = place_of at t.target }

-- its effects and target, tested at once by this trigger
abbrev pub led_by : RegionPlaces → Option Expr → Transition → Transition
led_by at trigger t = go true trigger (counting at t.target t.effects) (place_of at t.target)

-- of the aborts of a superstate, from number i on: its effects and target, tested by the flag
abbrev pub answers : RegionPlaces → Option ℕ → (i : ℕ) → List Transition → List Transition
answers at (Some x) i (t ∷ aborts) = led_by at (Some (is_number x i)) t ∷ answers at (Some x) (suc i) aborts
answers at flag i aborts = []

-- of the aborts of a superstate, from number i on: its trigger raises the flag, in the monitor
abbrev pub raising : (Transition → Bool) → (left : ℕ) → Option ℕ → (i : ℕ) → List Transition → List Transition
raising immediate left (Some x) i (t ∷ aborts) =
    go (immediate t) t.trigger (put x i ∷ []) left ∷ raising immediate left (Some x) (suc i) aborts
raising immediate left flag i aborts = []
