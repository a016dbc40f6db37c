use Rattle.std.proofs.lemmas.Grind.{elements}
use Rattle.std.proofs.Common.{◌≡◌, ◌∙◌, Some, arith, get_or, slice_get, ◌-◌, ◌<◌, ap, cond, length}
use Rattle.std.proofs.lemmas.Option.{slice_get-get_or}
use Rattle.std.proofs.lemmas.Map.Text.{is_eq-slice_cmp}
use Rattle.std.specs.Ordering.{nat_cmp}
use Rattle.std.specs.BTreeMap.{get}
use Rattle.std.specs.Cmp.Lexicographic.{slice_cmp}
use Rattle.scl_graph.proofs.Placed.{one_before}
use Rattle.scl_graph.proofs.places.in_order.Goals as goal

pub loop-left-preserved : goal.loop-left-preserved
loop-left-preserved c =
    let label = get_or c.args.labels.now (c.loop-left.left - 1) c.index-labels-left.result in
    let below : c.loop-left.left - 1 < length c.args.labels.now = omega (arith, c.loop-left-test.true, c.loop-left.invariant.within) in
    let is : slice_get c.args.labels.now (c.loop-left.left - 1) ≡ Some label =
    slice_get-get_or c.args.labels.now (c.loop-left.left - 1) c.index-labels-left.result below in
    record {
      within = omega (arith, c.loop-left.invariant.within);
      places = one_before (get (slice_cmp nat_cmp) c.loop-left.table) (get (slice_cmp nat_cmp) c.insert.new.self) c.args.labels.now c.loop-left.left label
          c.loop-left-test.true is c.loop-left.invariant.places
          (λ name. c.in_ok-insert.ensures.updates.0 name
          ∙ ap (λ b. cond b (Some (c.loop-left.left - 1)) (get (slice_cmp nat_cmp) c.loop-left.table name)) (is_eq-slice_cmp label.0 name));
    }

pub returns : goal.returns
returns c = grind (arith, elements) steps 2000000
