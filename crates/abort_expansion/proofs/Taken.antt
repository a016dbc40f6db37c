-- The transitions that expansion makes keep the rules of core charts.
use Rattle.std.proofs.Common.{◌≡◌, ◌≢◌, ℕ, zero, suc, ◌<◌, Bool, true, false, ◌||◌, IsTrue, if◌then◌else◌, Option, Some, None, List, [], ◌∷◌, ◌++◌, map}
use Rattle.std.proofs.Common.{slice_get, unwrap_or, refl, ap, subst}
use Rattle.sc_values.specs.declared.value.Kind.TheVariants as of_kind
use Rattle.sc_values.specs.declared.operator.BinaryOperator.TheVariants as operator
use Rattle.sc_values.specs.declared.expression.Expr.{Expr}
use Rattle.sc_graph.specs.declared.program.Variable.{Variable}
use Rattle.sc_graph.specs.declared.program.Role.TheVariants as role
use Rattle.sc_text.specs.Parts.{IsExpression}
use Rattle.core_charts.specs.declared.features.Features.TheVariants as features
use Rattle.core_charts.specs.declared.region.Effect.{Effect}
use Rattle.core_charts.specs.declared.region.Transition.{Transition}
use Rattle.core_charts.specs.declared.region.TransitionKind.TheVariants as kind
use Rattle.core_charts.specs.Rules.{IsEffect, IsTransition, kinds_of}
use Rattle.sc_text.proofs.EachItem.{Each, each_append, each_at}
use Rattle.abort_expansion.specs.declared.flags.Flags.{Flags}
use Rattle.abort_expansion.specs.declared.places.RegionPlaces.{RegionPlaces}
use Rattle.abort_expansion.specs.Flags.{local, is_there, aborts_around}
use Rattle.abort_expansion.specs.Transitions.{is_number, is_raised, number, put, count_down, on, go, check, strong_checks, weak_checks, counting, place_of}
use Rattle.abort_expansion.specs.Transitions.{led_by, answers, raising}
use Rattle.abort_expansion.proofs.Expressions.{beside_number, number_is_expression}

-- a flag or a counter among the variables
pub record IsFlag (variables : List Variable) (x : ℕ) : Type 0 where
  pub name : List ℕ
  pub is : slice_get variables x ≡ Some (local name)

abbrev pub IsFlagIfAny : List Variable → Option ℕ → Type 0
IsFlagIfAny variables (Some x) = IsFlag variables x
IsFlagIfAny variables None = Unit {0}

pub record AreFlags (variables : List Variable) (f : Flags) : Type 0 where
  pub strong : IsFlagIfAny variables f.strong
  pub weak : IsFlagIfAny variables f.weak
  pub counter : IsFlagIfAny variables f.counter

mapped_at : {A B : Type 0} (f : A → B) (xs : List A) (i : ℕ) (x : A) → slice_get xs i ≡ Some x → slice_get (map f xs) i ≡ Some (f x)
mapped_at f [] i x at = absurd cc
mapped_at f (y ∷ xs) zero x at = let same : y ≡ x = cc in ap (λ z. Some (f z)) same
mapped_at f (y ∷ xs) (suc i) x at = mapped_at f xs i x at

int_at : (variables : List Variable) (x : ℕ) → IsFlag variables x → slice_get (kinds_of variables) x ≡ Some of_kind.Int
int_at variables x h = mapped_at (λ v. v.kind) variables x (local h.name) h.is

local_is_no_input : role.Local ≢ role.Input
local_is_no_input is = absurd cc

flag_effect : (variables : List Variable) (x : ℕ) (e : Expr) → IsFlag variables x → IsExpression (kinds_of variables) of_kind.Int e
    → IsEffect variables (record { variable = x; value = e })
flag_effect variables x e h value = record { target = local h.name; is_target = h.is; no_input = local_is_no_input; value = value }

pub put_effect : (variables : List Variable) (x n : ℕ) → IsFlag variables x → IsEffect variables (put x n)
put_effect variables x n h = flag_effect variables x (number n) h (number_is_expression (kinds_of variables) n)

count_down_effect : (variables : List Variable) (x : ℕ) → IsFlag variables x → IsEffect variables (count_down x)
count_down_effect variables x h =
    flag_effect variables x (count_down x).value h
    (beside_number (kinds_of variables) operator.Subtract of_kind.Int x 1 (int_at variables x h) refl)

pub counting_down_effects : (variables : List Variable) (counter : Option ℕ) → IsFlagIfAny variables counter → Each (IsEffect variables) (on counter count_down)
counting_down_effects variables (Some x) h = (count_down_effect variables x h, tt)
counting_down_effects variables None h = tt

pub putting_effects : (variables : List Variable) (flag : Option ℕ) (n : ℕ) → IsFlagIfAny variables flag → Each (IsEffect variables) (on flag (λ x. put x n))
putting_effects variables (Some x) n h = (put_effect variables x n h, tt)
putting_effects variables None n h = tt

-- ---- transitions of simple states of a region with this many states

abbrev pub IsTrigger : List Variable → Option Expr → Type 0
IsTrigger variables trigger = (e : Expr) → trigger ≡ Some e → IsExpression (kinds_of variables) of_kind.Bool e

abbrev pub Goes : List Variable → ℕ → Transition → Type 0
Goes variables n t = IsTransition features.Core variables n false t

go_is_no_join : kind.Go ≢ kind.Join
go_is_no_join is = absurd cc

pub go_goes : (variables : List Variable) (n : ℕ) (immediate : Bool) (trigger : Option Expr) (effects : List Effect) (target : ℕ)
    → IsTrigger variables trigger → Each (IsEffect variables) effects → target < n
    → Goes variables n (go immediate trigger effects target)
go_goes variables n immediate trigger effects target h k within = record {
  allowed = refl;
  fits = refl;
  plain_join = λ is. absurd (go_is_no_join is);
  trigger = h;
  effect_count = tt;
  effects = each_at (IsEffect variables) effects k;
  target = within;
}

pub no_trigger : (variables : List Variable) → IsTrigger variables None
no_trigger variables e is = absurd cc

some_trigger : (variables : List Variable) (trigger : Expr) → IsExpression (kinds_of variables) of_kind.Bool trigger → IsTrigger variables (Some trigger)
some_trigger variables trigger h e is = let same : trigger ≡ e = cc in subst (IsExpression (kinds_of variables) of_kind.Bool) same h

pub number_trigger : (variables : List Variable) (x n : ℕ) → IsFlag variables x → IsTrigger variables (Some (is_number x n))
number_trigger variables x n h =
    some_trigger variables (is_number x n) (beside_number (kinds_of variables) operator.Equal of_kind.Bool x n (int_at variables x h) refl)

raised_trigger : (variables : List Variable) (x : ℕ) → IsFlag variables x → IsTrigger variables (Some (is_raised x))
raised_trigger variables x h =
    some_trigger variables (is_raised x) (beside_number (kinds_of variables) operator.NotEqual of_kind.Bool x 0 (int_at variables x h) refl)

-- ---- abort-flag checks

check_goes : (variables : List Variable) (n left : ℕ) (immediate : Bool) (flag : Option ℕ)
    → IsFlagIfAny variables flag → (IsTrue (is_there flag) → left < n) → Each (Goes variables n) (check immediate left flag)
check_goes variables n left immediate (Some x) h within =
    (go_goes variables n immediate (Some (is_raised x)) [] left (raised_trigger variables x h) tt (within refl), tt)
check_goes variables n left immediate None h within = tt

or_first : (a b : Bool) → IsTrue a → IsTrue (a || b)
or_first true b h = refl
or_first false b h = absurd cc

or_second : (a b : Bool) → IsTrue b → IsTrue (a || b)
or_second true b h = refl
or_second false b h = h

pub strong_checks_go : (variables : List Variable) (n left : ℕ) (immediate : Bool) (around : List Flags) → Each (AreFlags variables) around
    → (IsTrue (aborts_around around) → left < n) → Each (Goes variables n) (strong_checks immediate left around)
strong_checks_go variables n left immediate [] h within = tt
strong_checks_go variables n left immediate (f ∷ around) h within =
    each_append (Goes variables n) (check immediate left f.strong) (strong_checks immediate left around)
    (check_goes variables n left immediate f.strong h.0.strong
    (λ there. within (or_first (is_there f.strong || is_there f.weak) (aborts_around around) (or_first (is_there f.strong) (is_there f.weak) there))))
    (strong_checks_go variables n left immediate around h.1
    (λ there. within (or_second (is_there f.strong || is_there f.weak) (aborts_around around) there)))

pub weak_checks_go : (variables : List Variable) (n left : ℕ) (immediate : Bool) (around : List Flags) → Each (AreFlags variables) around
    → (IsTrue (aborts_around around) → left < n) → Each (Goes variables n) (weak_checks immediate left around)
weak_checks_go variables n left immediate [] h within = tt
weak_checks_go variables n left immediate (f ∷ around) h within =
    each_append (Goes variables n) (check immediate left f.weak) (weak_checks immediate left around)
    (check_goes variables n left immediate f.weak h.0.weak
    (λ there. within (or_first (is_there f.strong || is_there f.weak) (aborts_around around) (or_second (is_there f.strong) (is_there f.weak) there))))
    (weak_checks_go variables n left immediate around h.1
    (λ there. within (or_second (is_there f.strong || is_there f.weak) (aborts_around around) there)))

-- ---- transitions of the text, over all variables, in a region whose text has `m` states

pub record IsTaken (variables : List Variable) (m : ℕ) (t : Transition) : Type 0 where
  pub trigger : IsTrigger variables t.trigger
  pub effects : Each (IsEffect variables) t.effects
  pub target : t.target < m

-- behind expansion the region has `n` states, and each of the text has a place among them
pub record ArePlaces (variables : List Variable) (m n : ℕ) (at : RegionPlaces) : Type 0 where
  pub counter : IsFlagIfAny variables at.counter
  pub within : (target : ℕ) → target < m → place_of at target < n

counted : (variables : List Variable) (at : RegionPlaces) (final : Bool) (effects : List Effect) → IsFlagIfAny variables at.counter
    → Each (IsEffect variables) effects → Each (IsEffect variables) (if final then effects ++ on at.counter count_down else effects)
counted variables at true effects h k =
    each_append (IsEffect variables) effects (on at.counter count_down) k (counting_down_effects variables at.counter h)
counted variables at false effects h k = k

pub counting_effects : (variables : List Variable) (m n : ℕ) (at : RegionPlaces) (t : Transition) → ArePlaces variables m n at → IsTaken variables m t
    → Each (IsEffect variables) (counting at t.target t.effects)
counting_effects variables m n at t h k =
    counted variables at (unwrap_or (slice_get at.finals t.target) false) t.effects h.counter k.effects

pub led_by_goes : (variables : List Variable) (m n : ℕ) (at : RegionPlaces) (trigger : Option Expr) (t : Transition)
    → ArePlaces variables m n at → IsTaken variables m t → IsTrigger variables trigger → Goes variables n (led_by at trigger t)
led_by_goes variables m n at trigger t h k tested =
    go_goes variables n true trigger (counting at t.target t.effects) (place_of at t.target)
    tested (counting_effects variables m n at t h k) (h.within t.target k.target)

pub answers_go : (variables : List Variable) (m n : ℕ) (at : RegionPlaces) (flag : Option ℕ) (i : ℕ) (aborts : List Transition)
    → ArePlaces variables m n at → IsFlagIfAny variables flag → Each (IsTaken variables m) aborts → Each (Goes variables n) (answers at flag i aborts)
answers_go variables m n at (Some x) i (t ∷ aborts) h flag each = (
  led_by_goes variables m n at (Some (is_number x i)) t h each.0 (number_trigger variables x i flag),
  answers_go variables m n at (Some x) (suc i) aborts h flag each.1,
)
answers_go variables m n at (Some x) i [] h flag each = tt
answers_go variables m n at None i aborts h flag each = tt

pub raising_goes : (variables : List Variable) (m n left : ℕ) (immediate : Transition → Bool) (flag : Option ℕ) (i : ℕ) (aborts : List Transition)
    → left < n → IsFlagIfAny variables flag → Each (IsTaken variables m) aborts → Each (Goes variables n) (raising immediate left flag i aborts)
raising_goes variables m n left immediate (Some x) i (t ∷ aborts) within flag each = (
  go_goes variables n (immediate t) t.trigger (put x i ∷ []) left each.0.trigger (put_effect variables x i flag, tt) within,
  raising_goes variables m n left immediate (Some x) (suc i) aborts within flag each.1,
)
raising_goes variables m n left immediate (Some x) i [] within flag each = tt
raising_goes variables m n left immediate None i aborts within flag each = tt
