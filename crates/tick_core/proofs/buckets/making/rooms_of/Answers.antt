use Rattle.std.proofs.Common.{◌∙◌, ◌+◌, ◌<◌, ap, arith, length, slice_index}
use Rattle.std.proofs.lemmas.Grind.{get_or_default_zero, common_steps, elements}
use Rattle.tick_core.proofs.Counting.{count_more}
use Rattle.tick_core.proofs.buckets.making.rooms_of.Goals as goal

pub loop-place-preserved : goal.loop-place-preserved
loop-place-preserved c =
    let below : c.loop-place.place-index < length c.args.places.now = c.loop-place-test.true in
    let known : slice_index c.args.places.now c.loop-place.place-index < c.greatest_of.result + 1 = omega
    (arith, c.greatest_of.ensures c.loop-place.place-index below) in
    let there : slice_index c.args.places.now c.loop-place.place-index < length c.loop-place.rooms.items = omega (arith, c.loop-place.invariant.long) in
    count_more c.loop-place.rooms.items c.args.places.now c.loop-place.place-index _ c.loop-place.invariant below known _
    (ap (λ n. n + 1) (c.index_mut.ensures.value ∙ get_or_default_zero c.loop-place.rooms.items (slice_index c.args.places.now c.loop-place.place-index)
    c.index_mut.result.now there))

pub returns-clause-rooms : goal.returns-clause-rooms
returns-clause-rooms c = grind (arith, elements) steps 2000000

pub loop-place-init : goal.loop-place-init
loop-place-init c = grind (arith, common_steps) steps 2000000

pub overflow_add-index_mut : goal.overflow_add-index_mut
overflow_add-index_mut c = grind (arith, common_steps) steps 2000000
