-- The kind of what a code gives is that of the tree that it spells.
use Rattle.std.proofs.Common.{◌≡◌, Some, List, sym, ◌∙◌, ap, subst}
use Rattle.sc_values.specs.declared.value.Kind.{Kind}
use Rattle.sc_values.specs.declared.operation.Operation.{Operation}
use Rattle.sc_values.specs.Code.{code_kind, IsWellFormed}
use Rattle.sc_values.specs.Checked.{Checked, Checks}
use Rattle.sc_values.proofs.Evaluating.{code_kind_is}
use Rattle.sc_graph.specs.Program.{Program, kinds}

pub checked_gives : (p : Program) (known : List Kind) (code : List Operation) (checked : Checked) (k : Kind) → known ≡ kinds p → Checks known code checked →
    ((ks : List Kind) (checks : Checks ks checked.operations checked) → k ≡ checks.formed.gives) → IsWellFormed (kinds p) code
    × (code_kind code (kinds p) ≡ Some k)
checked_gives p known code checked k same checks tells =
    let P : List Kind → Type 0 = λ ks. Checks ks code checked in
    let here : Checks (kinds p) code checked = subst P same checks in
    let Q : List Operation → Type 0 = λ c. Checks (kinds p) c checked in
    let own : Checks (kinds p) checked.operations checked = subst Q (sym here.operations) here in
    let gives : code_kind checked.operations (kinds p) ≡ Some k = code_kind_is (kinds p) checked.operations own.formed ∙ ap Some (sym (tells (kinds p) own)) in
    (here.formed, ap (λ (o : List Operation). code_kind o (kinds p)) (sym here.operations) ∙ gives)
