-- Marks of what comes with a state and with those to which it leads at once.
use Rattle.std.proofs.Common.{◌≡◌, ℕ, suc, Bool, Option, List, sym, ap, subst, ◌∙◌}
use Rattle.core_charts.specs.declared.region.Transition.{Transition}
use Rattle.core_charts.specs.declared.region.State.{State}
use Rattle.chart_warnings.specs.Warnings.{at_place, entry_at, left_at_once, on_the_way}
use Rattle.chart_warnings.specs.declared.names.Mention.{Mention}
use Rattle.chart_warnings.specs.Inside.Marks.{all_by, marked}
use Rattle.chart_warnings.proofs.Marking.{marked_within}

-- one of the states on the way
pub one_step : (w : Mention) (states : List State) (steps left : ℕ) (place next : Option ℕ) (marks new done : List Bool) → left ≡ suc steps
    → new ≡ marked (all_by w (entry_at (at_place states place))) marks → next ≡ left_at_once (at_place states place)
    → marked (all_by w (on_the_way left states place)) marks ≡ done → marked (all_by w (on_the_way steps states next)) new ≡ done
one_step w states steps left place next marks new done is more leads before =
    let here : List Transition = entry_at (at_place states place) in
    let rest : List Transition = on_the_way steps states (left_at_once (at_place states place)) in
    ap (λ x. marked (all_by w (on_the_way steps states x)) new) leads
    ∙ ap (λ m. marked (all_by w rest) m) more
    ∙ sym (marked_within w here rest marks)
    ∙ ap (λ n. marked (all_by w (on_the_way n states place)) marks) (sym is)
    ∙ before

-- none is left
pub all_steps : (w : Mention) (states : List State) (left : ℕ) (place : Option ℕ) (marks done : List Bool) → left ≡ 0
    → marked (all_by w (on_the_way left states place)) marks ≡ done → marks ≡ done
all_steps w states left place marks done none before = subst (λ n. marked (all_by w (on_the_way n states place)) marks ≡ done) none before
