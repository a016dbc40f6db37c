use Rattle.std.proofs.Common.{[], ◌∷◌, ◌∙◌, sym, ap}
use Rattle.sc_values.specs.Code.{code_value}
use Rattle.tick_core.proofs.ShortCodes.{binary_of, gives_value}
use Rattle.tick_core.proofs.short_codes.value_by_two.Goals as goal

pub returns-in-Binary-Some-Some : goal.returns-in-Binary-Some-Some
returns-in-Binary-Some-Some c =
    gives_value c.apply.result _
    (c.apply.ensures
    ∙ sym (ap (λ o. code_value (c.args.left.now ∷ c.args.right.now ∷ o ∷ []) c.args.variables.now) c.in-Binary-Some-Some.is-0
    ∙ binary_of c.args.left.now c.args.right.now _ c.args.variables.now _ _
    (sym c.value_of-first.ensures ∙ c.in-Binary-Some-Some.is-1) (sym c.value_of-second.ensures ∙ c.in-Binary-Some-Some.is-2)))
