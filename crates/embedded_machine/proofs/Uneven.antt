-- Cells of another count than the variables.
use Rattle.std.proofs.Common.{◌≡◌, ◌≢◌, suc, ℤ, false, List, [], ◌∷◌, length, refl, ap}
use Rattle.std.proofs.lemmas.Bool.{and_right}
use Rattle.sc_graph.specs.declared.program.Variable.{Variable}
use Rattle.embedded_machine.specs.Cells.{value_in}
use Rattle.embedded_machine.specs.Refusals.{give_inputs, may_give}

-- they give no inputs
pub uneven_cells : (variables : List Variable) (cells : List ℤ) → length variables ≢ length cells → give_inputs variables cells ≡ false
uneven_cells [] [] differ = absurd (differ refl)
uneven_cells [] (n ∷ cells) differ = refl
uneven_cells (x ∷ variables) [] differ = refl
uneven_cells (x ∷ variables) (n ∷ cells) differ =
    and_right (may_give x.role (value_in x.kind n)) (give_inputs variables cells) (uneven_cells variables cells (λ same. differ (ap suc same)))
