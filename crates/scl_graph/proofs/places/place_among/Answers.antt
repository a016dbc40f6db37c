use Rattle.std.proofs.Common.{◌≡◌, ◌∙◌, Some, sym, refl, slice_get}
use Rattle.std.proofs.lemmas.Option.{slice_get_read}
use Rattle.scl_graph.specs.Inside.Gathering.{Noted}
use Rattle.scl_graph.proofs.Placed.{placed_further, placed_here}
use Rattle.scl_graph.proofs.places.place_among.Goals as goal

pub returns-then-eq : goal.returns-then-eq
returns-then-eq c =
    let labels : Noted = c.args.labels.now in
    let label = c.index-labels-place.result in
    let stands : slice_get labels c.loop-place.place ≡ Some label = slice_get_read labels _ _ label refl c.loop-place-test.true c.index-labels-place.is in
    sym (placed_here labels c.loop-place.place label c.args.name.now stands (sym c.eq.ensures ∙ c.if-eq.true)) ∙ c.loop-place.invariant

pub loop-place-preserved : goal.loop-place-preserved
loop-place-preserved c =
    let labels : Noted = c.args.labels.now in
    let label = c.index-labels-place.result in
    let stands : slice_get labels c.loop-place.place ≡ Some label = slice_get_read labels _ _ label refl c.loop-place-test.true c.index-labels-place.is in
    placed_further labels c.loop-place.place label c.args.name.now stands (sym c.eq.ensures ∙ c.if-eq.false) ∙ c.loop-place.invariant
