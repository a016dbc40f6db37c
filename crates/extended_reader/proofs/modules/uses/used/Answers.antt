use Rattle.std.proofs.Common.{rules, true, length}
use Rattle.sc_text.specs.declared.read_fault.ReadFault.{ReadFault}
use Rattle.extended_reader.specs.Answer.{Tells}
use Rattle.extended_reader.specs.Uses.{stands_for, used}
use Rattle.extended_reader.specs.Inside.Modules.{gone, IsStop}
use Rattle.extended_reader.proofs.UsesInOrder.{next_round, stopped}
use Rattle.extended_reader.proofs.modules.uses.used.Goals as goal

pub loop-count-preserved : goal.loop-count-preserved
loop-count-preserved c = record {
  few = c.in_ok-pass.ensures.few;
  is = next_round _ _ _ _ _ _ c.loop-count.invariant.is _ c.loop-count-test.true c.in_ok-pass.ensures.goes;
}

pub returns-in_err-pass : goal.returns-in_err-pass
returns-in_err-pass c =
    let stops : (f : ReadFault)
    → IsStop (stands_for c.args.site.now.modules.now c.args.site.now.known.now c.args.site.now.own) c.args.end
    (gone c.loop-count.walk.items c.loop-count.walk.out c.loop-count.walk.left.now c.loop-count.walk.may_begin c.loop-count.walk.made) f
    → Tells
    (used (stands_for c.args.site.now.modules.now c.args.site.now.known.now c.args.site.now.own) c.args.end (length c.args.text.now) 0 true c.args.text.now)
    f =
    λ f s. stopped _ _ _ _ _ _ c.loop-count.invariant.is f c.loop-count-test.true s in
    search (rules, stops)
