-- A valid program has no more outputs than a row can hold.
use Rattle.std.proofs.Common.{◌≡◌, cond, ℕ, zero, suc, ◌+◌, ◌≤◌, ◌<◌, ◌⊎◌, inl, inr, Bool, true, false, List, [], ◌∷◌, ◌++◌, length, take, slice_get, Some}
use Rattle.std.proofs.Common.{refl, ap, sym, subst, ◌∙◌, arith, zero-le, le_refl, le_trans, get_or}
use Rattle.std.specs.List.{count_by}
use Rattle.std.proofs.lemmas.List.{take_all, append-nil}
use Rattle.std.proofs.lemmas.List.Sums.{count_by_more_no, sum_by-cons}
use Rattle.std.proofs.lemmas.Option.{slice_get_cases}
use Rattle.sc_values.specs.declared.value.Value.{Value}
use Rattle.sc_graph.specs.declared.program.Variable.{Variable}
use Rattle.sc_graph.specs.declared.program.Role.{Role}
use Rattle.sc_graph.specs.declared.program.Role.TheVariants as role
use Rattle.sc_graph.specs.Program.{Program}
use Rattle.sc_graph.specs.Size.{is_output, VariableFits}
use Rattle.probe.specs.declared.tick_end.Output.{Output}
use Rattle.probe.specs.Outputs.{outputs_among}

is_output_role : (r : Role) → is_output r ≡ true → r ≡ role.Output
is_output_role role.Input e = absurd (cc e)
is_output_role role.Output e = refl
is_output_role role.Local e = absurd (cc e)

abbrev is_shown : Variable → Bool
is_shown a = is_output a.role

module _ (p : Program) (fits : (x : ℕ) (a : Variable) → slice_get p.variables x ≡ Some a → VariableFits p x a) where
  few_next : (n : ℕ) (a : Variable) → n < length p.variables → slice_get p.variables n ≡ Some a → get_or p.variables n a ≡ a
      → count_by is_shown (take n p.variables) ≤ 64 → (b : Bool) → is_shown a ≡ b → count_by is_shown (take (n + 1) p.variables) ≤ 64
  few_next n a within is read before true shown = (fits n a is).outputs (is_output_role a.role shown)
  few_next n a within is read before false other =
      subst (λ k. k ≤ 64) (sym (count_by_more_no is_shown p.variables n a within (ap is_shown read ∙ other))) before

  few_to : (n : ℕ) → n ≤ length p.variables → count_by is_shown (take n p.variables) ≤ 64
  few_to zero fit = zero-le
  few_to (suc n) fit =
      let next : n + 1 ≡ suc n = omega arith in
      subst (λ k. count_by is_shown (take k p.variables) ≤ 64) next (elim (slice_get_cases p.variables n).1 [
        | inl w ↦ few_next n w.0 w.1 w.2 w.3 (few_to n (omega (arith, fit))) (is_shown w.0) refl
        | inr w ↦ absurd (omega (arith, w.0, fit))
      ])

  few : count_by is_shown p.variables ≤ 64
  few = subst (λ (l : List Variable). count_by is_shown l ≤ 64) (take_all (length p.variables) p.variables (le_refl _))
      (few_to (length p.variables) (le_refl _))

counted_next : (a : Variable) (v : Value) (variables : List Variable) (values : List Value)
    → length (outputs_among variables values) ≤ count_by is_shown variables
    → (b : Bool) → is_shown a ≡ b → length (outputs_among (a ∷ variables) (v ∷ values)) ≤ count_by is_shown (a ∷ variables)
counted_next a v variables values before true shown = rw (sum_by-cons (λ (b : Variable). cond (is_shown b) 1 0) a variables, shown) (omega (arith, before))
counted_next a v variables values before false other = rw other before

counted : (variables : List Variable) (values : List Value) → length (outputs_among variables values) ≤ count_by is_shown variables
counted [] values = zero-le
counted (a ∷ variables) [] = zero-le
counted (a ∷ variables) (v ∷ values) = counted_next a v variables values (counted variables values) (is_shown a) refl

pub few_outputs : (p : Program) → ((x : ℕ) (a : Variable) → slice_get p.variables x ≡ Some a → VariableFits p x a) → (values : List Value)
    → length (outputs_among p.variables values) ≤ 64
few_outputs p fits values = le_trans (counted p.variables values) (few p fits)

-- where variables or values end, no outputs are left
pub ended : (row : List Output) (variables : List Variable) (values : List Value) → (length variables ≡ 0) ⊎ (length values ≡ 0)
    → row ++ outputs_among variables values ≡ row
ended row [] values e = append-nil row
ended row (a ∷ variables) [] e = append-nil row
ended row (a ∷ variables) (v ∷ values) (inl e) = absurd (omega (arith, e))
ended row (a ∷ variables) (v ∷ values) (inr e) = absurd (omega (arith, e))
