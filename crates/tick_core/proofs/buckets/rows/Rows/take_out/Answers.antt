use Rattle.std.proofs.Common.{arith, ◌≡◌, ◌∙◌, ◌+◌, ◌-◌, ap, slice_index}
use Rattle.std.proofs.lemmas.Grind.{get_or_default_zero, common_steps, elements}
use Rattle.tick_core.specs.Rows.{IsIn}
use Rattle.tick_core.proofs.Classes.{stood_in}
use Rattle.tick_core.proofs.Leaving.{has_left, stands_in, StandsIn}
use Rattle.tick_core.proofs.buckets.rows.Rows.take_out.Goals as goal

pub overflow_add-index : goal.overflow_add-index
overflow_add-index c =
    let is : IsIn c.self.inside.classes.items c.args.item c.in-Some.class = stood_in _ c.args.item c.index.result.now c.in-Some.class
    (rw (← c.self.view_is) at c.requires) c.index.ensures c.in-Some.is in
    let it : StandsIn c.self.inside.classes.items c.self.inside.starts.items c.self.inside.counts.items c.self.inside.row.items c.self.inside.places.items
    c.args.item c.in-Some.class = stands_in _ _ _ _ _ _ _ _ c.self.invariant c.args.item c.in-Some.class is in
    let start_is : c.index-3.result.now ≡ slice_index c.self.inside.starts.items c.in-Some.class = c.index-3.ensures
    ∙ get_or_default_zero c.self.inside.starts.items c.in-Some.class c.index-3.result.now it.start_there in
    let count_is : c.index-2.result.now ≡ slice_index c.self.inside.counts.items c.in-Some.class = c.index-2.ensures
    ∙ get_or_default_zero c.self.inside.counts.items c.in-Some.class c.index-2.result.now it.count_there in
    omega (arith, it.last_place)

pub index-last-requires : goal.index-last-requires
index-last-requires c =
    let is : IsIn c.self.inside.classes.items c.args.item c.in-Some.class = stood_in _ c.args.item c.index.result.now c.in-Some.class
    (rw (← c.self.view_is) at c.requires) c.index.ensures c.in-Some.is in
    let it : StandsIn c.self.inside.classes.items c.self.inside.starts.items c.self.inside.counts.items c.self.inside.row.items c.self.inside.places.items
    c.args.item c.in-Some.class = stands_in _ _ _ _ _ _ _ _ c.self.invariant c.args.item c.in-Some.class is in
    let start_is : c.index-3.result.now ≡ slice_index c.self.inside.starts.items c.in-Some.class = c.index-3.ensures
    ∙ get_or_default_zero c.self.inside.starts.items c.in-Some.class c.index-3.result.now it.start_there in
    let count_is : c.index-2.result.now ≡ slice_index c.self.inside.counts.items c.in-Some.class = c.index-2.ensures
    ∙ get_or_default_zero c.self.inside.counts.items c.in-Some.class c.index-2.result.now it.count_there in
    omega (arith, it.last_place)

pub index_mut-requires : goal.index_mut-requires
index_mut-requires c =
    let is : IsIn c.self.inside.classes.items c.args.item c.in-Some.class = stood_in _ c.args.item c.index.result.now c.in-Some.class
    (rw (← c.self.view_is) at c.requires) c.index.ensures c.in-Some.is in
    let it : StandsIn c.self.inside.classes.items c.self.inside.starts.items c.self.inside.counts.items c.self.inside.row.items c.self.inside.places.items
    c.args.item c.in-Some.class = stands_in _ _ _ _ _ _ _ _ c.self.invariant c.args.item c.in-Some.class is in
    let at_is : c.index-at.result.now ≡ slice_index c.self.inside.places.items c.args.item = c.index-at.ensures
    ∙ get_or_default_zero c.self.inside.places.items c.args.item c.index-at.result.now it.place_there in
    omega (arith, it.place)

pub index_mut-requires-2 : goal.index_mut-requires-2
index_mut-requires-2 c =
    let is : IsIn c.self.inside.classes.items c.args.item c.in-Some.class = stood_in _ c.args.item c.index.result.now c.in-Some.class
    (rw (← c.self.view_is) at c.requires) c.index.ensures c.in-Some.is in
    let it : StandsIn c.self.inside.classes.items c.self.inside.starts.items c.self.inside.counts.items c.self.inside.row.items c.self.inside.places.items
    c.args.item c.in-Some.class = stands_in _ _ _ _ _ _ _ _ c.self.invariant c.args.item c.in-Some.class is in
    let start_is : c.index-3.result.now ≡ slice_index c.self.inside.starts.items c.in-Some.class = c.index-3.ensures
    ∙ get_or_default_zero c.self.inside.starts.items c.in-Some.class c.index-3.result.now it.start_there in
    let count_is : c.index-2.result.now ≡ slice_index c.self.inside.counts.items c.in-Some.class = c.index-2.ensures
    ∙ get_or_default_zero c.self.inside.counts.items c.in-Some.class c.index-2.result.now it.count_there in
    let last_is : c.index-last.result.now
    ≡ slice_index c.self.inside.row.items (slice_index c.self.inside.starts.items c.in-Some.class + (c.index-2.result.now - 1)) =
    c.index-last.ensures ∙ (get_or_default_zero c.self.inside.row.items (c.index-3.result.now + (c.index-2.result.now - 1)) c.index-last.result.now
    (omega (arith, it.last_place))
    ∙ ap (λ n. slice_index c.self.inside.row.items (n + (c.index-2.result.now - 1))) start_is) in
    omega (arith, it.last_item, ap (λ n. slice_index c.self.inside.row.items (slice_index c.self.inside.starts.items c.in-Some.class + (n - 1))) count_is)

pub index_mut-requires-3 : goal.index_mut-requires-3
index_mut-requires-3 c =
    let is : IsIn c.self.inside.classes.items c.args.item c.in-Some.class = stood_in _ c.args.item c.index.result.now c.in-Some.class
    (rw (← c.self.view_is) at c.requires) c.index.ensures c.in-Some.is in
    let it : StandsIn c.self.inside.classes.items c.self.inside.starts.items c.self.inside.counts.items c.self.inside.row.items c.self.inside.places.items
    c.args.item c.in-Some.class = stands_in _ _ _ _ _ _ _ _ c.self.invariant c.args.item c.in-Some.class is in
    omega (arith, it.count_there)

pub invariant_of-self : goal.invariant_of-self
invariant_of-self c =
    let is : IsIn c.self.inside.classes.items c.args.item c.in-Some.class = stood_in _ c.args.item c.index.result.now c.in-Some.class
    (rw (← c.self.view_is) at c.requires) c.index.ensures c.in-Some.is in
    let it : StandsIn c.self.inside.classes.items c.self.inside.starts.items c.self.inside.counts.items c.self.inside.row.items c.self.inside.places.items
    c.args.item c.in-Some.class = stands_in _ _ _ _ _ _ _ _ c.self.invariant c.args.item c.in-Some.class is in
    let start_is : c.index-3.result.now ≡ slice_index c.self.inside.starts.items c.in-Some.class = c.index-3.ensures
    ∙ get_or_default_zero c.self.inside.starts.items c.in-Some.class c.index-3.result.now it.start_there in
    let count_is : c.index-2.result.now ≡ slice_index c.self.inside.counts.items c.in-Some.class = c.index-2.ensures
    ∙ get_or_default_zero c.self.inside.counts.items c.in-Some.class c.index-2.result.now it.count_there in
    let at_is : c.index-at.result.now ≡ slice_index c.self.inside.places.items c.args.item = c.index-at.ensures
    ∙ get_or_default_zero c.self.inside.places.items c.args.item c.index-at.result.now it.place_there in
    let last_is : c.index-last.result.now
    ≡ slice_index c.self.inside.row.items (slice_index c.self.inside.starts.items c.in-Some.class + (c.index-2.result.now - 1)) =
    c.index-last.ensures ∙ (get_or_default_zero c.self.inside.row.items (c.index-3.result.now + (c.index-2.result.now - 1)) c.index-last.result.now
    (omega (arith, it.last_place))
    ∙ ap (λ n. slice_index c.self.inside.row.items (n + (c.index-2.result.now - 1))) start_is) in
    has_left _ _ _ _ _ _ _ _ c.self.invariant c.args.item c.in-Some.class c.index-at.result.now (c.index-2.result.now - 1) c.index-last.result.now is at_is
    (ap (λ n. n - 1) count_is) last_is

pub index-requires-2 : goal.index-requires-2
index-requires-2 c = grind (arith, elements) steps 2000000

pub overflow_sub-count : goal.overflow_sub-count
overflow_sub-count c = grind (arith, elements) steps 2000000

pub index-requires-3 : goal.index-requires-3
index-requires-3 c = grind (arith, elements) steps 2000000

pub returns-in_default : goal.returns-in_default
returns-in_default c = grind (arith, common_steps) steps 2000000

pub overflow_sub-self : goal.overflow_sub-self
overflow_sub-self c = grind (arith, common_steps) steps 2000000

pub index_mut-requires-4 : goal.index_mut-requires-4
index_mut-requires-4 c = grind (arith, common_steps) steps 2000000
