use Rattle.std.proofs.Common.{length, length-drop, ap, ◌∙◌, arith}
use Rattle.std.proofs.lemmas.List.{take_rest}
use Rattle.sc_values.proofs.Writing.{appends_more, counts_none}
use Rattle.sc_values.proofs.streams.write_all.Goals as goal

pub loop-from-preserved : goal.loop-from-preserved
loop-from-preserved g c =
    let bytes = c.args.bytes.now in
    let from = c.loop-from.from in
    let appends = rw (take_rest bytes from) at c.in-Ok.ensures.bytes in
    let bound = c.in-Ok.ensures.bound in
    record {
      within = omega (arith, bound, ap length (take_rest bytes from), length-drop from bytes, c.loop-from-test.true);
      appends = appends_more _ _ _ _ _ _ c.loop-from.invariant.appends appends;
      none_failed = counts_none _ _ _ _ c.in-Ok.count-test.1 c.in-Ok.ensures.count ∙ c.loop-from.invariant.none_failed;
    }
