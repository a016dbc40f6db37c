use Rattle.std.proofs.Common.{◌≡◌, ◌∙◌, ◌+◌, ap, sym, Some, drop, slice_get, refl}
use Rattle.std.proofs.lemmas.Option.{slice_get_read}
use Rattle.trace_lines.specs.Output.{with_outputs}
use Rattle.trace_lines.specs.Inside.Rows.{placed}
use Rattle.trace_lines.proofs.Placing.{with_outputs-next}
use Rattle.trace_lines.proofs.outputs.places_of.Goals as goal

pub loop-place-preserved : goal.loop-place-preserved
loop-place-preserved c = λ values same.
    let l = c.loop-place in
    let variables = c.args.variables.now in
    let a = c.index-variables-place.result in
    let is : slice_get variables l.place ≡ Some a = slice_get_read _ _ _ _ refl c.loop-place-test.true c.index-variables-place.is in
    ap (with_outputs (drop (l.place + 1) variables) (drop (l.place + 1) values)) (c.in_ok-add.ensures values)
    ∙ sym (with_outputs-next l.place variables values a (placed l.places.entries values) same is)
    ∙ l.invariant values same
