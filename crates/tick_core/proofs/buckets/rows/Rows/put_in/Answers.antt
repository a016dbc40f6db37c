use Rattle.std.proofs.Common.{arith, ◌≡◌, ◌∙◌, ◌<◌, ◌+◌, length, slice_index, slice_get, Some, None}
use Rattle.std.proofs.lemmas.Grind.{get_or_default_zero, common_steps, elements}
use Rattle.tick_core.proofs.Entering.{has_entered, free_place, FreePlace}
use Rattle.tick_core.proofs.buckets.rows.Rows.put_in.Goals as goal

pub index_mut-requires : goal.index_mut-requires
index_mut-requires c =
    let free : FreePlace c.self.inside.rooms.items c.self.inside.starts.items c.self.inside.counts.items c.self.inside.row.items c.args.class =
    free_place _ _ _ _ _ _ _ _ c.self.invariant c.args.item c.args.class (rw (← c.self.view_is) at c.requires.nowhere)
    (rw (← c.self.view_is) at c.requires.room.1) (rw (← c.self.view_is) at c.requires.room.2) in
    let start = get_or_default_zero c.self.inside.starts.items c.args.class c.index.result.now free.start_there in
    let count = get_or_default_zero c.self.inside.counts.items c.args.class c.index-2.result.now free.count_there in
    omega (arith, free.place, c.index.ensures, c.index-2.ensures, start, count)

pub overflow_add-index_mut : goal.overflow_add-index_mut
overflow_add-index_mut c =
    let free : FreePlace c.self.inside.rooms.items c.self.inside.starts.items c.self.inside.counts.items c.self.inside.row.items c.args.class =
    free_place _ _ _ _ _ _ _ _ c.self.invariant c.args.item c.args.class (rw (← c.self.view_is) at c.requires.nowhere)
    (rw (← c.self.view_is) at c.requires.room.1) (rw (← c.self.view_is) at c.requires.room.2) in
    let count = get_or_default_zero c.self.inside.counts.items c.args.class c.index_mut-3.result.now free.count_there in
    omega (arith, free.place, c.index_mut-3.ensures.value, count)

pub invariant_of-self : goal.invariant_of-self
invariant_of-self c =
    let nowhere : slice_get c.self.inside.classes.items c.args.item ≡ Some None = rw (← c.self.view_is) at c.requires.nowhere in
    let known : c.args.class < length c.self.inside.rooms.items = rw (← c.self.view_is) at c.requires.room.1 in
    let free : FreePlace c.self.inside.rooms.items c.self.inside.starts.items c.self.inside.counts.items c.self.inside.row.items c.args.class =
    free_place _ _ _ _ _ _ _ _ c.self.invariant c.args.item c.args.class nowhere known (rw (← c.self.view_is) at c.requires.room.2) in
    let start = get_or_default_zero c.self.inside.starts.items c.args.class c.index.result.now free.start_there in
    let count = get_or_default_zero c.self.inside.counts.items c.args.class c.index-2.result.now free.count_there in
    let count_is : c.index_mut-3.result.now ≡ slice_index c.self.inside.counts.items c.args.class = c.index_mut-3.ensures.value
    ∙ get_or_default_zero c.self.inside.counts.items c.args.class c.index_mut-3.result.now free.count_there in
    rw count_is (has_entered _ _ _ _ _ _ _ _ c.self.invariant c.args.item c.args.class (c.index.result.now + c.index-2.result.now) c.max-self-inside.result
    nowhere known (rw (← c.self.view_is) at c.requires.room.2)
    (omega (arith, c.index.ensures, c.index-2.ensures, start, count)) (omega (arith, c.max-self-inside.ensures)) (omega (arith, c.max-self-inside.ensures)))

pub overflow_add-at : goal.overflow_add-at
overflow_add-at c = grind (arith, elements) steps 2000000

pub overflow_add-self : goal.overflow_add-self
overflow_add-self c = grind (arith, common_steps) steps 2000000

pub index_mut-requires-3 : goal.index_mut-requires-3
index_mut-requires-3 c = grind (arith, common_steps) steps 2000000

pub index_mut-requires-2 : goal.index_mut-requires-2
index_mut-requires-2 c = grind (arith, common_steps) steps 2000000

pub index_mut-requires-4 : goal.index_mut-requires-4
index_mut-requires-4 c = grind (arith, common_steps) steps 2000000
