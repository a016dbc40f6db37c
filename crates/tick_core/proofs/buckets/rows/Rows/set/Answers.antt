use Rattle.std.proofs.lemmas.Grind.{common_steps}
use Rattle.std.proofs.Common.{ap, ◌∙◌, slice_get, None, arith}
use Rattle.tick_core.proofs.Lists.{get_set_same}
use Rattle.tick_core.proofs.Moving.{room_after, room_known, set_again}
use Rattle.tick_core.proofs.buckets.rows.Rows.set.Goals as goal

pub put_in-requires-clause-room : goal.put_in-requires-clause-room
put_in-requires-clause-room c = room_after _ _ c.args.item c.in-Some.class c.take_out.ensures (rw c.in-Some.is at c.requires)

pub put_in-requires-clause-nowhere : goal.put_in-requires-clause-nowhere
put_in-requires-clause-nowhere c = ap (λ r. slice_get r.classes c.args.item) c.take_out.ensures
    ∙ get_set_same _ c.args.item None (room_known _ c.args.item c.args.class c.requires)

pub returns-in-Some : goal.returns-in-Some
returns-in-Some c = set_again _ _ _ c.args.item c.in-Some.class c.args.class c.in-Some.is c.take_out.ensures c.put_in.ensures

pub take_out-requires : goal.take_out-requires
take_out-requires c = grind (arith, common_steps) steps 2000000
