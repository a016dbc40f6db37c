use Rattle.std.proofs.Common.{◌∙◌, None, ap, subst}
use Rattle.std.specs.Prelude.{replicate}
use Rattle.tick_core.specs.Rows.{HasRooms}
use Rattle.tick_core.specs.Space.Sorting.{OwnRows}
use Rattle.tick_core.proofs.LeadingThreads.{own_none}
use Rattle.tick_core.proofs.sorting.rows_of.Goals as goal

pub returns : goal.returns
returns c =
    let program_is = c.program-program.ensures ∙ ap (λ i. i.program) c.image-image.ensures.value in
    let tables_is = c.tables.ensures.value ∙ ap (λ i. i.tables) c.image-image.ensures.value in
    subst (λ p. OwnRows p c.args.verified.now.tables c.in_ok-rows.rows) program_is
    (subst (λ q. OwnRows c.program-program.result.now q c.in_ok-rows.rows) tables_is
    (own_none c.program-program.result.now c.tables.result.now c.in_ok-rows.rows c.in_ok-priorities.priorities.items c.in_ok-priorities.ensures
    (subst (HasRooms c.in_ok-rows.rows.rooms) c.deref.ensures.value c.in_ok-rows.ensures.rooms)
    (c.in_ok-rows.ensures.empty ∙ ap (λ n. replicate n None) c.thread_count.ensures.count)))
