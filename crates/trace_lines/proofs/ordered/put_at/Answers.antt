use Rattle.std.proofs.Common.{◌∙◌, arith}
use Rattle.trace_lines.proofs.InOrder.{place_in-within, set_at, insert_at}
use Rattle.trace_lines.proofs.ordered.put_at.Goals as goal

pub returns-then-is_named_at : goal.returns-then-is_named_at
returns-then-is_named_at c =
    c.set.ensures
    ∙ set_at c.args.given c.args.found.now.items c.deref.result.now c.args.place c.deref.ensures.value c.requires
    (c.is_named_at.ensures.0 c.if-is_named_at.true)

pub insert-requires : goal.insert-requires
insert-requires c =
    let here = c.requires in
    let within = place_in-within c.args.given.0 c.args.found.now.items in
    omega (arith, here, within)

pub returns : goal.returns
returns c =
    c.in_ok-insert.ensures
    ∙ insert_at c.args.given c.args.found.now.items c.deref.result.now c.args.place c.is_named_at.result c.deref.ensures.value c.requires
    c.if-is_named_at.false c.is_named_at.ensures.1
