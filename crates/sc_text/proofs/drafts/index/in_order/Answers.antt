use Rattle.std.proofs.Common.{◌≡◌, ◌∙◌, Some, arith, refl, slice_get, ◌-◌, ◌<◌, ap, cond, length}
use Rattle.std.proofs.lemmas.Option.{slice_get_read}
use Rattle.std.proofs.lemmas.Map.Text.{is_eq-slice_cmp}
use Rattle.std.specs.Ordering.{nat_cmp}
use Rattle.std.specs.BTreeMap.{get}
use Rattle.std.specs.Cmp.Lexicographic.{slice_cmp}
use Rattle.sc_text.proofs.Indexed.{one_before}
use Rattle.sc_text.proofs.drafts.index.in_order.Goals as goal

pub loop-left-preserved : goal.loop-left-preserved
loop-left-preserved c =
    let name = c.index-names-left.result in
    let below : c.loop-left.left - 1 < length c.args.names.now = omega (arith, c.loop-left-test.true, c.loop-left.invariant.within) in
    let is : slice_get c.args.names.now (c.loop-left.left - 1) ≡ Some name = slice_get_read _ _ _ _ refl below c.index-names-left.is in
    record {
      within = omega (arith, c.loop-left.invariant.within);
      places = one_before (get (slice_cmp nat_cmp) c.loop-left.ordered) (get (slice_cmp nat_cmp) c.insert.new.self) c.args.names.now c.loop-left.left name
          c.loop-left-test.true is c.loop-left.invariant.places
          (λ q. c.in_ok-insert.ensures.updates.0 q ∙ ap (λ b. cond b (Some (c.loop-left.left - 1)) (get (slice_cmp nat_cmp) c.loop-left.ordered q))
          (is_eq-slice_cmp name q));
    }
