use Rattle.std.proofs.Common.{◌≡◌, ℕ, [], false, drop, length, replicate, ap, sym, subst, ◌∙◌}
use Rattle.std.proofs.lemmas.List.{drop_all}
use Rattle.chart_warnings.specs.Warnings.{led_to, left_for, targets_besides}
use Rattle.chart_warnings.specs.Inside.Marks.{Tells, marked}
use Rattle.chart_warnings.proofs.Marking.{target_marked, tells_marked}
use Rattle.chart_warnings.proofs.states.led_to.Goals as goal

pub loop-place-preserved : goal.loop-place-preserved
loop-place-preserved c =
    let s : _ = c.index-states-place.result in
    let i : ℕ = c.loop-place.place in
    let more : c.mark_targets.new.marks.items ≡ marked (left_for i s) c.loop-place.marks.items =
    c.mark_targets.ensures ∙ ap (λ ts. marked (targets_besides i ts) c.loop-place.marks.items) c.as_slice.ensures in
    target_marked c.args.states.now i s c.loop-place.marks.items c.mark_targets.new.marks.items
    (marked (led_to 0 c.args.states.now) (replicate (length c.args.states.now) false))
    c.loop-place-test.true c.index-states-place.is more c.loop-place.invariant

pub returns : goal.returns
returns c =
    let none : drop c.loop-place.place c.args.states.now ≡ [] = drop_all c.loop-place.place c.args.states.now c.loop-place-test.false in
    let all : c.loop-place.marks.items ≡ marked (led_to 0 c.args.states.now) (replicate (length c.args.states.now) false) =
    sym (ap (λ xs. marked (led_to c.loop-place.place xs) c.loop-place.marks.items) none) ∙ c.loop-place.invariant in
    subst (λ ms. Tells (led_to 0 c.args.states.now) (length c.args.states.now) ms) (sym all)
    (tells_marked (led_to 0 c.args.states.now) (length c.args.states.now))
