use Rattle.std.proofs.Common.{◌≡◌, ◌++◌, ℕ, List, Some, false, length, replicate, ap, sym, subst, ◌∙◌}
use Rattle.chart_warnings.specs.declared.names.Mention.TheVariants as way
use Rattle.chart_warnings.specs.Warnings.{on_the_way}
use Rattle.chart_warnings.specs.Inside.Marks.{Tells, all_by, by_transition, marked}
use Rattle.chart_warnings.proofs.Marking.{marked_append, tells_marked}
use Rattle.chart_warnings.proofs.transitions.StateContext.set_after.Goals as goal

pub returns : goal.returns
returns c =
    let xs : List ℕ = by_transition way.Set c.args.transition.now in
    let ys : List ℕ = all_by way.Set (on_the_way (length c.args.self.states.now) c.args.self.states.now (Some c.args.transition.now.target)) in
    let n : ℕ = length c.args.self.variables.now in
    let all : c.mark_target.new.marks.items ≡ marked (xs ++ ys) (replicate n false) =
    c.mark_target.ensures
    ∙ ap (λ m. marked ys m) (c.mark_transition.ensures ∙ ap (λ m. marked xs m) c.in_ok-marks.ensures)
    ∙ sym (marked_append xs ys (replicate n false)) in
    subst (λ ms. Tells (xs ++ ys) n ms) (sym all) (tells_marked (xs ++ ys) n)
