use Rattle.std.proofs.Common.{◌≡◌, ◌∙◌, ◌-◌, ◌+◌, ◌<◌, ap, subst, arith, length, slice_index, take, drop}
use Rattle.std.proofs.lemmas.Grind.{get_or_default_zero, elements}
use Rattle.tick_core.specs.Rows.{Rows, IsRow}
use Rattle.tick_core.proofs.Reading.{row_is, start_known}
use Rattle.tick_core.proofs.buckets.rows.Rows.row.Goals as goal

pub returns-then-class-len : goal.returns-then-class-len
returns-then-class-len c =
    let below : c.args.class < length c.self.inside.counts.items = omega (arith, c.if-class-len.true, c.len.ensures) in
    let known = start_known _ _ _ _ _ _ _ _ c.self.invariant c.args.class below in
    let start_is : c.index-start.result.now ≡ slice_index c.self.inside.starts.items c.args.class = c.index-start.ensures
    ∙ get_or_default_zero c.self.inside.starts.items c.args.class c.index-start.result.now known.1 in
    let count_is : c.index.result.now ≡ slice_index c.self.inside.counts.items c.args.class = c.index.ensures
    ∙ get_or_default_zero c.self.inside.counts.items c.args.class c.index.result.now below in
    let long : c.index-start.result.now + c.index.result.now - c.index-start.result.now ≡ slice_index c.self.inside.counts.items c.args.class = omega
    (arith, count_is) in
    subst (λ (r : Rows). IsRow r.classes c.args.class
    (take (c.index-start.result.now + c.index.result.now - c.index-start.result.now) (drop c.index-start.result.now c.deref.result.now))) c.self.view_is
    (row_is _ _ _ _ _ _ _ _ c.self.invariant c.args.class
    (take (c.index-start.result.now + c.index.result.now - c.index-start.result.now) (drop c.index-start.result.now c.deref.result.now)) known.0
    (ap (λ n. take n (drop c.index-start.result.now c.deref.result.now)) long
    ∙ (ap (λ n. take (slice_index c.self.inside.counts.items c.args.class) (drop n c.deref.result.now)) start_is
    ∙ ap (λ xs. take (slice_index c.self.inside.counts.items c.args.class) (drop (slice_index c.self.inside.starts.items c.args.class) xs))
    c.deref.ensures.value)))

pub overflow_add-result : goal.overflow_add-result
overflow_add-result c = grind (arith, elements) steps 2000000

pub offset_bounds-deref-start : goal.offset_bounds-deref-start
offset_bounds-deref-start c = grind (arith, elements) steps 2000000

pub slice_bounds-result-end : goal.slice_bounds-result-end
slice_bounds-result-end c = grind (arith, elements) steps 2000000
