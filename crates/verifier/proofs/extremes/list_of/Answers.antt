use Rattle.std.proofs.lemmas.Grind.{elements}
use Rattle.std.proofs.Common.{ℕ, ◌≡◌, Option, None, List, [], unwrap_or, ap, sym, ◌∙◌, arith}
use Rattle.std.specs.Prelude.{slice_get}
use Rattle.std.proofs.lemmas.Option.{unwrap_or-slice_get}
use Rattle.verifier.proofs.extremes.list_of.Goals as goal

pub returns-in-None : goal.returns-in-None
returns-in-None c =
    let none : slice_get c.args.lists.now c.args.x ≡ None = sym c.in-None.ensures.value in
    sym (sym (unwrap_or-slice_get c.args.lists.now c.args.x []) ∙ ap (λ (o : Option (List ℕ)). unwrap_or o []) none)

pub returns-in-Some : goal.returns-in-Some
returns-in-Some c = grind (arith, elements) steps 2000000
