-- The law is not empty: the example's first tick and one that finds it paused have one end, and where the first one leads.
use Rattle.std.proofs.Common.{◌≡◌, ℕ, zero, suc, Some, [], ◌∷◌, slice_get, option_and_then, option_map, Contains, refl, ap, subst, sym, ◌∙◌, ⊎_elim, arith, ℤ}
use Rattle.std.proofs.Common.{pos}
use Rattle.std.proofs.lemmas.Option.{none-some, same_Some}
use Rattle.std.proofs.lemmas.Int.{int_wrap_fits, fits_signed_from_abs}
use Rattle.std.specs.Int.{w32}
use Rattle.sc_values.specs.declared.value.Kind.TheVariants as kind_is
use Rattle.sc_values.specs.declared.value.Value.{Value}
use Rattle.sc_values.specs.declared.value.Value.TheVariants as value_is
use Rattle.sc_values.specs.declared.operation.Operation.TheVariants as op
use Rattle.sc_values.specs.declared.operator.Combination.TheVariants as combine
use Rattle.sc_values.specs.declared.expression.Expr.TheOpen as tree
use Rattle.sc_values.specs.Operator.{kind_of}
use Rattle.sc_values.specs.Runs.{replay}
use Rattle.sc_values.proofs.Induction.{value-literal, value-load}
use Rattle.sc_graph.specs.declared.program.Role.TheVariants as role
use Rattle.sc_graph.specs.declared.program.Step.TheVariants as step
use Rattle.sc_graph.specs.declared.control.Control.{Control}
use Rattle.sc_graph.specs.declared.control.Status.{Status}
use Rattle.sc_graph.specs.declared.control.Status.TheVariants as status
use Rattle.sc_graph.specs.declared.place.Place.TheVariants as place
use Rattle.sc_graph.specs.Program.{kind_at, kinds}
use Rattle.sc_graph.specs.Machine.{machine}
use Rattle.sc_graph.specs.Steps.{after, assigned, updated, step as step_of}
use Rattle.sc_graph.specs.Control.{status_of}
use Rattle.sc_graph.specs.Tick.{initial, start, Rests, AreAccepted, IsPlace, IsPresent}
use Rattle.tick_laws.specs.OneEnd.{OneEnd}
use Rattle.tick_laws.proofs.Final.{one_end_of_tick}
use Rattle.tick_laws.proofs.Lists.{contains_none, contains_cons}
use Rattle.tick_laws.proofs.ExampleStands.{example, example_tables, the_fork}
use Rattle.tick_laws.proofs.Example.{example_valid}

-- before its first tick
all_absent : (t : ℕ) → status_of (initial example) t ≡ status.Absent
all_absent zero = refl
all_absent (suc zero) = refl
all_absent (suc (suc zero)) = refl
all_absent (suc (suc (suc t))) = refl

initial_kinds : (x : ℕ) (v : Value) → slice_get (initial example).variables x ≡ Some v → kind_at example x ≡ Some (kind_of v)
initial_kinds zero v h = ap (λ v. Some (kind_of v)) (same_Some (value_is.Int (pos 0)) v h)
initial_kinds (suc zero) v h = ap (λ v. Some (kind_of v)) (same_Some (value_is.Int (pos 0)) v h)
initial_kinds (suc (suc x)) v h = absurd (none-some v h)

pub example_rests : Rests example (initial example)
example_rests =
    record {
      configuration =
          record {
            values = refl;
            kinds = initial_kinds;
            threads = refl;
            places = λ t. subst (IsPlace example t) (sym (all_absent t)) tt;
            present = λ n t children j k fork child. (
              λ here. absurd (subst IsPresent (all_absent k) here),
              λ waits. absurd (apart j (sym (all_absent t) ∙ waits)),
            );
          };
      nobody_at = λ t n at. stands n (sym (all_absent t) ∙ at);
    }
  where
    apart : (j : ℕ) → status.Absent ≡ status.Waiting j → ⊥
    apart j h = cc

    stands : (n : ℕ) → status.Absent ≡ status.At n → ⊥
    stands n h = cc

pub example_accepts : AreAccepted example []
example_accepts = record { named = λ i name v h. absurd (none-some (name, v) h); once = λ i j a b lt h. absurd (none-some a h) }

-- the law speaks of this program's first tick
pub example_has_one_end : OneEnd example example_tables (start example [] (initial example))
example_has_one_end = one_end_of_tick example example_tables (initial example) [] example_valid example_rests example_accepts

-- a configuration in which the root is paused
abbrev pub example_paused : Control
example_paused =
    record { variables = value_is.Int (pos 1) ∷ value_is.Int (pos 1) ∷ []; statuses = status.Paused 3 ∷ status.Absent ∷ status.Absent ∷ [] }

paused_kinds : (x : ℕ) (v : Value) → slice_get example_paused.variables x ≡ Some v → kind_at example x ≡ Some (kind_of v)
paused_kinds zero v h = ap (λ v. Some (kind_of v)) (same_Some (value_is.Int (pos 1)) v h)
paused_kinds (suc zero) v h = ap (λ v. Some (kind_of v)) (same_Some (value_is.Int (pos 1)) v h)
paused_kinds (suc (suc x)) v h = absurd (none-some v h)

paused_places : (t : ℕ) → IsPlace example t (status_of example_paused t)
paused_places zero = refl
paused_places (suc zero) = tt
paused_places (suc (suc zero)) = tt
paused_places (suc (suc (suc t))) = tt

nobody_waits : (t j : ℕ) → status_of example_paused t ≡ status.Waiting j → ⊥
nobody_waits zero j h = cc
nobody_waits (suc zero) j h = cc
nobody_waits (suc (suc zero)) j h = cc
nobody_waits (suc (suc (suc t))) j h = cc

nobody_stands : (t n : ℕ) → status_of example_paused t ≡ status.At n → ⊥
nobody_stands zero n h = cc
nobody_stands (suc zero) n h = cc
nobody_stands (suc (suc zero)) n h = cc
nobody_stands (suc (suc (suc t))) n h = cc

children_absent : (k : ℕ) → Contains (1 ∷ 2 ∷ []) k → IsPresent (status_of example_paused k) → ⊥
children_absent zero child here = ⊎_elim (λ e. absurd (omega (arith, e)))
    (λ rest. ⊎_elim (λ e. absurd (omega (arith, e))) (λ none. absurd (contains_none 0 none)) (contains_cons 2 0 [] rest)) (contains_cons 1 0 (2 ∷ []) child)
children_absent (suc zero) child here = here
children_absent (suc (suc zero)) child here = here
children_absent (suc (suc (suc k))) child here = here

pub example_rests_paused : Rests example example_paused
example_rests_paused =
    record {
      configuration =
          record {
            values = refl;
            kinds = paused_kinds;
            threads = refl;
            places = paused_places;
            present = λ n t children j k fork child. (
              λ here. absurd (children_absent k (subst (λ ks. Contains ks k) (the_fork n children j fork.forks).forked child) here),
              λ waits. absurd (nobody_waits t j waits),
            );
          };
      nobody_at = nobody_stands;
    }

-- and of a tick that finds it paused
pub example_has_one_end_paused : OneEnd example example_tables (start example [] example_paused)
example_has_one_end_paused = one_end_of_tick example example_tables example_paused [] example_valid example_rests_paused example_accepts

-- the first tick leads there: fork, add, end, set, end, join and pause
abbrev stands : ℤ → ℤ → Status → Status → Status → Control
stands x y root adds sets = record { variables = value_is.Int x ∷ value_is.Int y ∷ []; statuses = root ∷ adds ∷ sets ∷ [] }

abbrev forked : Control
forked = stands (pos 0) (pos 0) (status.Waiting 1) (status.At 4) (status.At 6)

added : step_of example 1 forked ≡ Some (stands (pos 1) (pos 0) (status.Waiting 1) (status.At 5) (status.At 6))
added =
    ap (λ o. option_map (λ e. after e forked) (option_and_then (updated example 1 0 combine.Add 5) o)) (value-literal (value_is.Int (pos 1)) forked.variables)
    ∙ ap (λ z. Some (stands z (pos 0) (status.Waiting 1) (status.At 5) (status.At 6)))
    (int_wrap_fits w32 (pos 1) (fits_signed_from_abs w32 (pos 1) (omega arith)))

abbrev adds_no_more : Control
adds_no_more = stands (pos 1) (pos 0) (status.Waiting 1) status.Ended (status.At 6)

set : step_of example 2 adds_no_more ≡ Some (stands (pos 1) (pos 1) (status.Waiting 1) status.Ended (status.At 7))
set = ap (λ o. option_map (λ e. after e adds_no_more) (option_and_then (assigned example 2 1 7) o)) (value-load 0 adds_no_more.variables)

pub example_first_tick : replay (machine example) (0 ∷ 1 ∷ 1 ∷ 2 ∷ 2 ∷ 0 ∷ 0 ∷ []) (start example [] (initial example)) ≡ Some example_paused
example_first_tick =
    ap (option_and_then (replay (machine example) (1 ∷ 2 ∷ 2 ∷ 0 ∷ 0 ∷ []))) added
    ∙ ap (option_and_then (replay (machine example) (2 ∷ 0 ∷ 0 ∷ []))) set
