use Rattle.std.proofs.Common.{◌≡◌, ◌∙◌, ◌+◌, Some, None, length, length-set, slice_get, take, refl, sym, ap, arith}
use Rattle.std.proofs.lemmas.Option.{slice_get_read, slice_get-get_or, get_or_from_slice_get}
use Rattle.sc_graph.specs.Tick.{given}
use Rattle.tick_core.proofs.Starts.{values_from, value_more, taken_more, taken_all}
use Rattle.tick_core.proofs.started_twice.start_values_twice.Goals as goal

pub loop-x-preserved : goal.loop-x-preserved
loop-x-preserved c =
    let l = c.loop-x in
    let variable = c.index-variables-x.result in
    record {
      long = ap length c.set.ensures ∙ (length-set _ _ _ ∙ l.invariant.long);
      started = λ inputs gives.
          let is : slice_get c.args.variables.now l.x ≡ Some variable = slice_get_read _ _ _ _ refl c.loop-x-test.true c.index-variables-x.is in
          let started = c.started_value-value.ensures inputs
          (get_or_from_slice_get c.args.given.now l.x (given inputs variable.name) None (gives.each l.x variable is)) in
          ap (λ ws. values_from inputs c.args.variables.now ws (l.x + 1)) c.set.ensures
          ∙ (value_more inputs c.args.variables.now l.values l.x variable _ _ is
          (sym (ap (λ ws. slice_get ws l.x) c.as_slice.ensures)
          ∙ slice_get-get_or c.as_slice.result.now l.x _ (omega (arith, ap length c.as_slice.ensures, l.invariant.long, c.loop-x-test.true))) started
          ∙ l.invariant.started inputs gives);
      others = ap length c.set-in-loop-x.ensures ∙ (length-set _ _ _ ∙ l.invariant.others);
      same = ap (take (l.x + 1)) c.set-in-loop-x.ensures
          ∙ (taken_more l.others l.values l.x c.started_value-value.result (omega (arith, l.invariant.others, c.loop-x-test.true))
          (omega (arith, l.invariant.long, c.loop-x-test.true)) l.invariant.same
          ∙ sym (ap (take (l.x + 1)) c.set.ensures));
    }

pub returns-clause-same : goal.returns-clause-same
returns-clause-same c =
    taken_all c.loop-x.others c.loop-x.values c.loop-x.x (omega (arith, c.loop-x.invariant.others, c.loop-x-test.false))
    (omega (arith, c.loop-x.invariant.long, c.loop-x-test.false)) c.loop-x.invariant.same
