-- Waking a configuration that rests: where each region and each thread comes to stand.
use Rattle.std.proofs.Common.{◌≡◌, ◌≢◌, ℕ, zero, suc, ◌+◌, ◌≤◌, Bool, true, false, Option, Some, None, List, []}
use Rattle.std.proofs.Common.{◌∷◌, ◌++◌, map, length, slice_get, unwrap_or, refl, ap, subst, ◌∙◌, arith}
use Rattle.std.specs.Prelude.{filter}
use Rattle.std.specs.List.{list_all}
use Rattle.sc_values.specs.declared.value.Value.{Value}
use Rattle.sc_graph.specs.declared.program.Variable.{Variable}
use Rattle.sc_graph.specs.declared.program.Role.TheVariants as role
use Rattle.sc_graph.specs.Tick.{Inputs, value_at_start, values_at_start}
use Rattle.core_charts.specs.declared.region.Transition.{Transition}
use Rattle.core_charts.specs.Tests.{strong_aborts, closing_tests}
use Rattle.chart_machine.specs.declared.standing.Standing.{Standing}
use Rattle.chart_machine.specs.declared.standing.Standing.TheVariants as at
use Rattle.chart_machine.specs.declared.standing.Configuration.{Configuration}
use Rattle.chart_machine.specs.declared.table.Table.{Table}
use Rattle.chart_machine.specs.Table.{state_at}
use Rattle.chart_machine.specs.Turns.{standing_of, has_ended}
use Rattle.chart_machine.specs.Machine.{woken, guarded_first}
use Rattle.abort_expansion.specs.Transitions.{raising}
use Rattle.abort_expansion_laws.specs.CoreRows.{own, Images}
use Rattle.abort_expansion_laws.specs.Related.{Each, AreAmong, raises, raise_each, is_behind}

-- ---- of lists

-- all of them, each with its number
abbrev pub numbered_from : ℕ → List Transition → List (ℕ × Transition)
numbered_from n [] = []
numbered_from n (t ∷ ts) = (n, t) ∷ numbered_from (suc n) ts

pub numbered_are : (n : ℕ) (ts : List Transition) → map (λ x. x.1) (numbered_from n ts) ≡ ts
numbered_are n [] = refl
numbered_are n (t ∷ ts) = ap (λ zs. t ∷ zs) (numbered_are (suc n) ts)

among_later : (all : List Transition) (n : ℕ) (ts : List Transition) → ((j : ℕ) (t : Transition) → slice_get ts j ≡ Some t → slice_get all (n + j) ≡ Some t) →
    AreAmong all (numbered_from n ts)
among_later all n [] h = tt
among_later all n (t ∷ ts) h = (
  subst (λ m. slice_get all m ≡ Some t) (no_more n) (h 0 t refl),
  among_later all (suc n) ts (λ j u is. subst (λ m. slice_get all m ≡ Some u) (one_more n j) (h (suc j) u is)),
)
  where
    no_more : (n : ℕ) → n + 0 ≡ n
    no_more n = omega arith

    one_more : (n j : ℕ) → n + suc j ≡ suc n + j
    one_more n j = omega arith

pub all_among : (ts : List Transition) → AreAmong ts (numbered_from 0 ts)
all_among ts = among_later ts 0 ts (λ j t is. subst (λ m. slice_get ts m ≡ Some t) (none_before j) is)
  where
    none_before : (j : ℕ) → j ≡ 0 + j
    none_before j = omega arith

pub raising_is : (immediate : Transition → Bool) (flag : Option ℕ) (n : ℕ) (ts : List Transition) →
    raising immediate 1 flag (suc n) ts ≡ raise_each immediate flag (numbered_from n ts)
raising_is immediate None n [] = refl
raising_is immediate None n (t ∷ ts) = refl
raising_is immediate (Some x) n [] = refl
raising_is immediate (Some x) n (t ∷ ts) = ap (λ zs. raises immediate x (n, t) ∷ zs) (raising_is immediate (Some x) (suc n) ts)

pub each_kept : (P : Transition → Bool) (ts : List Transition) → Each (λ t. P t ≡ true) (filter P ts)
each_kept P [] = tt
each_kept P (t ∷ ts) = by_own (P t) refl (each_kept P ts)
  where
    by_own : (b : Bool) → P t ≡ b → Each (λ t. P t ≡ true) (filter P ts) → Each (λ t. P t ≡ true) (filter P (t ∷ ts))
    by_own true is rest = rw (is) (is, rest)
    by_own false is rest = rw (is) rest

-- ---- of variables

abbrev pub IsLocal : Variable → Type 0
IsLocal x = x.role ≡ role.Local

pub variables_started : (inputs : Inputs) (xs ys : List Variable) (vs more : List Value) → length vs ≡ length xs → length more ≡ length ys →
    Each IsLocal ys → values_at_start inputs (xs ++ ys) (vs ++ more) ≡ values_at_start inputs xs vs ++ more
variables_started inputs [] [] [] [] e f locals = refl
variables_started inputs [] [] [] (v ∷ more) e f locals = absurd (omega (f, arith))
variables_started inputs [] (y ∷ ys) [] [] e f locals = absurd (omega (f, arith))
variables_started inputs [] (y ∷ ys) [] (v ∷ more) e f locals =
    let own_is : value_at_start inputs y y.role v ≡ v = ap (λ r. value_at_start inputs y r v) locals.0 in
    let rest : values_at_start inputs ys more ≡ more = variables_started inputs [] ys [] more refl (omega (f, arith)) locals.1 in
    ap (λ z. z ∷ values_at_start inputs ys more) own_is ∙ ap (λ zs. v ∷ zs) rest
variables_started inputs [] ys (v ∷ vs) more e f locals = absurd (omega (e, arith))
variables_started inputs (x ∷ xs) ys [] more e f locals = absurd (omega (e, arith))
variables_started inputs (x ∷ xs) ys (v ∷ vs) more e f locals =
    ap (λ zs. value_at_start inputs x x.role v ∷ zs) (variables_started inputs xs ys vs more (omega (e, arith)) f locals)

pub started_size : (inputs : Inputs) (xs : List Variable) (vs : List Value) → length vs ≡ length xs → length (values_at_start inputs xs vs) ≡ length xs
started_size inputs [] vs e = refl
started_size inputs (x ∷ xs) [] e = absurd (omega (e, arith))
started_size inputs (x ∷ xs) (v ∷ vs) e = ap suc (started_size inputs xs vs (omega (e, arith)))

-- what stands behind the declared ones is not changed
pub behind_same : (xs ys more : List Value) (n : ℕ) → length xs ≡ length ys → length xs ≤ n → slice_get (xs ++ more) n ≡ slice_get (ys ++ more) n
behind_same [] [] more n e le = refl
behind_same [] (y ∷ ys) more n e le = absurd (omega (e, arith))
behind_same (x ∷ xs) [] more n e le = absurd (omega (e, arith))
behind_same (x ∷ xs) (y ∷ ys) more zero e le = absurd (omega (le, arith))
behind_same (x ∷ xs) (y ∷ ys) more (suc n) e le = behind_same xs ys more n (omega (e, arith)) (omega (le, arith))

-- ---- of standings

module _ (k : Table) where
  pub woken_at : (zs : List Standing) (r : ℕ) → unwrap_or (slice_get (map (woken k) zs) r) at.Outside ≡ woken k (unwrap_or (slice_get zs r) at.Outside)
  woken_at [] r = refl
  woken_at (z ∷ zs) zero = refl
  woken_at (z ∷ zs) (suc r) = woken_at zs r

  first_ended : (s : ℕ) (strong closing : List Transition) → has_ended (guarded_first s strong closing) ≡ false
  first_ended s [] closing = refl
  first_ended s (t ∷ strong) closing = refl

  pub woken_ended : (x : Standing) → has_ended (woken k x) ≡ has_ended x
  woken_ended at.Outside = refl
  woken_ended at.Ended = refl
  woken_ended (at.Trying s tests) = refl
  woken_ended (at.Acting s effects p) = refl
  woken_ended (at.Entering s tests) = refl
  woken_ended (at.Guarding s tests) = refl
  woken_ended (at.Within s tests) = first_ended s (strong_aborts (own k s)) (closing_tests (own k s))

  first_present : (s : ℕ) (strong closing : List Transition) → guarded_first s strong closing ≢ at.Outside
  first_present s [] closing e = absurd cc
  first_present s (t ∷ strong) closing e = absurd cc

  -- who is woken was there
  pub present_before : (x : Standing) → woken k x ≢ at.Outside → x ≢ at.Outside
  present_before x present e = present (ap (woken k) e)

  pub present_after : (x : Standing) → x ≢ at.Outside → woken k x ≢ at.Outside
  present_after at.Outside present e = present refl
  present_after at.Ended present e = absurd cc
  present_after (at.Trying s tests) present e = absurd cc
  present_after (at.Acting s effects p) present e = absurd cc
  present_after (at.Entering s tests) present e = absurd cc
  present_after (at.Guarding s tests) present e = absurd cc
  present_after (at.Within s tests) present e = first_present s (strong_aborts (own k s)) (closing_tests (own k s)) e

  -- a superstate that is open with strong aborts guards, and one without them is open
  pub guards_then : (s : ℕ) (tests : List Transition) (t : Transition) (strong : List Transition) → strong_aborts (own k s) ≡ t ∷ strong →
      woken k (at.Within s tests) ≡ at.Guarding s (t ∷ strong)
  guards_then s tests t strong e = ap (λ zs. guarded_first s zs (closing_tests (own k s))) e

  pub open_then : (s : ℕ) (tests : List Transition) → strong_aborts (own k s) ≡ [] → woken k (at.Within s tests) ≡ at.Within s (closing_tests (own k s))
  open_then s tests e = ap (λ zs. guarded_first s zs (closing_tests (own k s))) e

-- ---- who has ended has ended

module _ (k core : Table) (i : Images) (c e : Configuration) (same : (r : ℕ) → has_ended (standing_of e r) ≡ has_ended (standing_of c r)) where
  pub all_ended_too : (rs : List ℕ) → list_all (λ r. has_ended (standing_of e r)) rs ≡ list_all (λ r. has_ended (standing_of c r)) rs
  all_ended_too [] = refl
  all_ended_too (r ∷ rs) = rw (same r, all_ended_too rs) refl

  pub behind_too : (s : ℕ) → is_behind k core i e s ≡ is_behind k core i c s
  behind_too s = rw (all_ended_too (state_at k s).regions) refl
