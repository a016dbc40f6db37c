use Rattle.std.proofs.Common.{string_bytes}
use Rattle.chart_warnings.specs.Reports.{heads_of}
use Rattle.chart_warnings.proofs.Joining.{more_told, all_told}
use Rattle.chart_warnings.proofs.texts.telling.tell_all.Goals as goal

pub loop-warning-preserved : goal.loop-warning-preserved
loop-warning-preserved c =
    more_told c.args.warned.name.now c.args.warned.text.now c.args.warned.places.now c.args.warnings.now c.loop-warning.warning-index
    (heads_of c.args.warned.text.now c.args.warned.places.now c.args.warnings.now) _ (string_bytes c.loop-warning.told)
    (string_bytes c.tell.new.told) c.loop-warning-test.true c.loop-warning.invariant c.in_ok-tell.ensures

pub returns : goal.returns
returns c =
    all_told c.args.warned.name.now c.args.warned.text.now c.args.warned.places.now c.args.warnings.now c.loop-warning.warning-index
    (heads_of c.args.warned.text.now c.args.warned.places.now c.args.warnings.now) (string_bytes c.loop-warning.told)
    c.loop-warning-test.false c.loop-warning.invariant
