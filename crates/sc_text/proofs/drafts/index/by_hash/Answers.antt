use Rattle.std.proofs.lemmas.Grind.{common_steps}
use Rattle.std.proofs.Common.{◌≡◌, Some, arith, refl, slice_get, ◌-◌, ◌<◌, length}
use Rattle.std.proofs.lemmas.Option.{slice_get_read}
use Rattle.std.specs.Prelude.{nat_eq}
use Rattle.std.specs.HashMap.{get}
use Rattle.std.specs.Cmp.Lexicographic.{pointwise}
use Rattle.sc_text.proofs.Indexed.{one_before}
use Rattle.sc_text.proofs.drafts.index.by_hash.Goals as goal

pub loop-left-preserved : goal.loop-left-preserved
loop-left-preserved c =
    let name = c.index-names-left.result in
    let below : c.loop-left.left - 1 < length c.args.names.now = omega (arith, c.loop-left-test.true, c.loop-left.invariant.within) in
    let is : slice_get c.args.names.now (c.loop-left.left - 1) ≡ Some name = slice_get_read _ _ _ _ refl below c.index-names-left.is in
    record {
      within = omega (arith, c.loop-left.invariant.within);
      places = one_before (get (pointwise nat_eq) c.loop-left.hashed) (get (pointwise nat_eq) c.insert.new.self) c.args.names.now c.loop-left.left name
          c.loop-left-test.true is c.loop-left.invariant.places c.in_ok-insert.ensures.updates.0;
    }

pub loop-left-init : goal.loop-left-init
loop-left-init c = grind (arith, common_steps) steps 2000000
