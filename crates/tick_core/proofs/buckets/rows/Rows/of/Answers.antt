use Rattle.std.proofs.lemmas.Grind.{common_steps, elements}
use Rattle.std.proofs.Common.{◌≡◌, ◌∙◌, ◌<◌, ap, sym, subst, rules, length, take, arith}
use Rattle.std.specs.Prelude.{replicate, sum_by}
use Rattle.std.proofs.lemmas.List.{length-replicate}
use Rattle.tick_core.proofs.Counting.{stand_empty}
use Rattle.tick_core.proofs.buckets.rows.Rows.of.Goals as goal

pub invariant_of-result : goal.invariant_of-result
invariant_of-result c =
    let row_is : c.in_ok-row.row.items ≡ replicate (length c.args.places.now) 0 = search rules in
    let places_are : c.in_ok-of_items.of_items.items ≡ replicate c.args.items 0 = search rules in
    stand_empty c.in_ok-rooms.rooms.items c.in_ok-classes.classes.items c.in_ok-starts.starts.items c.in_ok-counts.counts.items c.in_ok-row.row.items
    c.in_ok-of_items.of_items.items c.args.items
    (c.in_ok-starts.ensures.length ∙ ap length c.deref.ensures.value)
    (λ class below. c.in_ok-starts.ensures.starts class (subst (λ xs. class < length xs) (sym c.deref.ensures.value) below)
    ∙ ap (λ xs. sum_by (λ x. x) (take class xs)) c.deref.ensures.value)
    (c.in_ok-rooms.ensures.all ∙ sym (ap length row_is ∙ length-replicate (length c.args.places.now) 0))
    (search rules)
    (search rules)
    (ap length places_are ∙ length-replicate c.args.items 0)

pub returns-clause-rooms : goal.returns-clause-rooms
returns-clause-rooms c = grind (arith, common_steps) steps 2000000

pub returns-clause-empty : goal.returns-clause-empty
returns-clause-empty c = grind (arith, elements) steps 2000000
