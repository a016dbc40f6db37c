use Rattle.std.proofs.Common.{◌∙◌, sym, arith}
use Rattle.sc_text.proofs.Resolving.{number_fits}
use Rattle.sc_text.proofs.drafts.scope.Scope.number.Goals as goal

pub overflow_cast-result : goal.overflow_cast-result
overflow_cast-result c =
    let at = sym c.in-Some.is ∙ c.place.ensures _ c.args.self.now.same in
    let below = number_fits _ _ _ at c.requires in
    omega (arith, below)
