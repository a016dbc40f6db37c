-- Of a program no more is known than that some proof tells it to keep the rules of SCL; but each rule is a plain fact, and so all
-- of them hold.
use Rattle.std.proofs.Common.{◌≡◌, ℕ, ◌≤◌, Bool, Option, Some, None, List, [], ◌∷◌, map, slice_get, refl, ◌∙◌, ap, subst}
use Rattle.std.specs.Prelude.{IsTrue}
use Rattle.std.proofs.Math.Logic.{∥∥₁_elim, ∥∥₁_map}
use Rattle.std.proofs.Math.Bridge.{le_prop}
use Rattle.std.proofs.Math.Bool.{Bool-set}
use Rattle.sc_values.specs.declared.value.Kind.{Kind}
use Rattle.sc_values.specs.declared.value.Kind.TheVariants as kind_is
use Rattle.sc_values.specs.declared.operation.Operation.{Operation}
use Rattle.sc_values.specs.declared.expression.Expr.{Expr}
use Rattle.sc_values.specs.Expr.{kind, postorder}
use Rattle.sc_values.specs.Code.{IsWithinLimits}
use Rattle.sc_graph.specs.Limits.{child_limit}
use Rattle.sc_graph.specs.declared.program.Variable.{Variable}
use Rattle.sc_text.specs.declared.language.Language.{Language}
use Rattle.sc_text.specs.declared.language.Language.TheVariants as language
use Rattle.sc_text.specs.Parts.{IsNameIn, IsExpression, AreVariables, are_distinct, is_writable}
use Rattle.scl.specs.declared.program.Scl.{Scl}
use Rattle.scl.specs.Rules.{Part, IsAssignment, KeepsBody, KeepsRules, root}

no_proof : IsProp ⊥
no_proof = hlevel

true_prop : (b : Bool) → IsProp (IsTrue b)
true_prop b = hlevel (Bool-set)

name_prop : (l : Language) (name : List ℕ) → IsProp (IsNameIn l name)
name_prop l name = hlevel (true_prop)

variables_prop : (l : Language) (variables : List Variable) → IsProp (AreVariables l variables)
variables_prop l variables = hlevel (le_prop, name_prop, true_prop)

limits_prop : (code : List Operation) → IsProp (IsWithinLimits code)
limits_prop code = hlevel (le_prop)

few_prop : (n : ℕ) → IsProp ((1 ≤ n) × (n ≤ child_limit))
few_prop n = hlevel (le_prop)

-- ---- facts that are decided

none_is : {A : Type 0} (xs : List A) → ∥ xs ≡ [] ∥₁ → xs ≡ []
none_is [] h = refl
none_is (x ∷ xs) h = absurd (∥∥₁_elim h no_proof (λ e. cc))

kind_same : (o : Option Kind) (k : Kind) → ∥ o ≡ Some k ∥₁ → o ≡ Some k
kind_same None k h = absurd (∥∥₁_elim h no_proof (λ e. cc))
kind_same (Some kind_is.Bool) kind_is.Bool h = refl
kind_same (Some kind_is.Int) kind_is.Int h = refl
kind_same (Some kind_is.Bool) kind_is.Int h = absurd (∥∥₁_elim h no_proof (λ e. cc))
kind_same (Some kind_is.Int) kind_is.Bool h = absurd (∥∥₁_elim h no_proof (λ e. cc))

expression_holds : (kinds : List Kind) (k : Kind) (e : Expr) → ∥ IsExpression kinds k e ∥₁ → IsExpression kinds k e
expression_holds kinds k e h = record {
  kinded = kind_same (kind e kinds) k (∥∥₁_map h (λ i. i.kinded));
  within = ∥∥₁_elim h (limits_prop (postorder e)) (λ i. i.within);
  writable = ∥∥₁_elim h (true_prop (is_writable e)) (λ i. i.writable);
}

assignment_holds : (variables : List Variable) (x : ℕ) (e : Expr) → ∥ IsAssignment variables x e ∥₁ → IsAssignment variables x e
assignment_holds variables x e h = by_variable (slice_get variables x) refl
  where
    by_variable : (o : Option Variable) → slice_get variables x ≡ o → IsAssignment variables x e
    by_variable None was = absurd (∥∥₁_elim h no_proof (λ a. let some = a.is_there in cc))
    by_variable (Some v) was =
        let same : (a : IsAssignment variables x e) → a.variable ≡ v = λ a. (let some = a.is_there in cc) in
        record {
          variable = v;
          is_there = was;
          no_input = λ is. ∥∥₁_elim h no_proof (λ a. a.no_input (ap (λ (w : Variable). w.role) (same a) ∙ is));
          becomes = expression_holds (map (λ w. w.kind) variables) v.kind e
              (∥∥₁_map h (λ a. subst (λ (w : Variable). IsExpression (map (λ w. w.kind) variables) w.kind e) (same a) a.becomes));
        }

-- ---- all rules

body_holds : (variables : List Variable) (all : Part) → ∥ KeepsBody variables all ∥₁ → KeepsBody variables all
body_holds variables all h = record {
  assignments = λ n x e at. assignment_holds variables x e (∥∥₁_map h (λ k. k.assignments n x e at));
  tests = λ n e at. expression_holds (map (λ v. v.kind) variables) kind_is.Bool e (∥∥₁_map h (λ k. k.tests n e at));
  distinct = ∥∥₁_elim h (true_prop (are_distinct all.lower)) (λ k. k.distinct);
  named = λ n name at. ∥∥₁_elim h (name_prop language.Scl name) (λ k. k.named n name at);
  found = none_is all.lost (∥∥₁_map h (λ k. k.found));
  branches = λ n count at. ∥∥₁_elim h (few_prop count) (λ k. k.branches n count at);
  forks = ∥∥₁_elim h le_prop (λ k. k.forks);
  ifs = ∥∥₁_elim h le_prop (λ k. k.ifs);
}

pub rules_hold : (p : Scl) → KeepsRules p.name p.variables p.body
rules_hold p = record {
  named = ∥∥₁_elim p.kept (name_prop language.Scl p.name) (λ k. k.named);
  declared = ∥∥₁_elim p.kept (variables_prop language.Scl p.variables) (λ k. k.declared);
  text = body_holds p.variables (root p.body) (∥∥₁_map p.kept (λ k. k.text));
}
