-- What an assignment of a draft is where nothing is wrong with it.
use Rattle.std.proofs.Common.{◌≡◌, ◌≢◌, ℕ, true, false, Option, Some, None, List, [], slice_get, refl, ap, ◌∙◌}
use Rattle.std.specs.Prelude.{option_map, option_and_then, unwrap_or}
use Rattle.std.specs.List.{list_all}
use Rattle.std.proofs.lemmas.Option.{slice_get-map}
use Rattle.sc_graph.specs.declared.program.Variable.{Variable}
use Rattle.sc_graph.specs.declared.program.Role.{Role}
use Rattle.sc_graph.specs.declared.program.Role.TheVariants as role
use Rattle.sc_text.specs.declared.read_fault.FaultKind.TheVariants as broken
use Rattle.sc_text.specs.Parts.{IsExpression}
use Rattle.sc_text.specs.Writable.{is_writable_operation}
use Rattle.sc_text.specs.declared.drafts.flaw.Flaw.{Flaw}
use Rattle.sc_text.specs.declared.drafts.parts.Named.{Named}
use Rattle.sc_text.specs.declared.drafts.parts.TextExpression.{TextExpression}
use Rattle.sc_text.specs.declared.drafts.parts.Declaration.{Declaration}
use Rattle.sc_text.specs.Flaws.{flaw_if, is_input, place_among, variable_names, variable_named, expression_flaws, assigned_flaws}
use Rattle.sc_text.specs.Resolved.{number_of, expression_of, variable_of, variables_of}
use Rattle.sc_text.proofs.Kinded.{kinds_of}
use Rattle.sc_text.proofs.Unflawed.{none_first, none_second, no_flaw, expression_is}

no_input : (r : Role) → is_input r ≡ false → r ≢ role.Input
no_input role.Input e = absurd cc
no_input role.Output e = λ same. cc
no_input role.Local e = λ same. cc

-- the target is a variable that is no input, and the value is of its kind
pub record IsAssigned (V : List Declaration) (target : Named) (e : TextExpression) : Type 0 where
  pub variable : Variable
  pub is_there : slice_get (variables_of V) (number_of (variable_names V) target.name) ≡ Some variable
  pub no_input : variable.role ≢ role.Input
  pub value : IsExpression (kinds_of V) variable.kind (expression_of (variable_names V) e.operations)

module _ (V : List Declaration) (target : Named) (e : TextExpression) (can : list_all is_writable_operation e.operations ≡ true) where
  assigned_at : (p : Option ℕ) (o : Option Declaration) → place_among (variable_names V) target.name ≡ p → option_and_then (slice_get V) p ≡ o
      → assigned_flaws V o target e ≡ [] → IsAssigned V target e
  assigned_at p None was is none = absurd cc
  assigned_at None (Some x) was is none = absurd cc
  assigned_at (Some i) (Some x) was is none =
      let number : number_of (variable_names V) target.name ≡ i = ap (λ p. unwrap_or p 0) was in
      let there : slice_get (variables_of V) i ≡ Some (variable_of x) = slice_get-map variable_of V i ∙ ap (option_map variable_of) is in
      let first : List Flaw = flaw_if (is_input x.role) broken.Rule target.at in
      record {
        variable = variable_of x;
        is_there = ap (slice_get (variables_of V)) number ∙ there;
        no_input = no_input x.role (no_flaw (is_input x.role) broken.Rule target.at (none_first first (expression_flaws V (Some x.kind) e) none));
        value = expression_is V x.kind e can (none_second first (expression_flaws V (Some x.kind) e) none);
      }

  pub assigned_is : assigned_flaws V (variable_named V target.name) target e ≡ [] → IsAssigned V target e
  assigned_is none = assigned_at (place_among (variable_names V) target.name) (variable_named V target.name) refl refl none
