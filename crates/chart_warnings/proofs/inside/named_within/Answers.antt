use Rattle.std.proofs.Common.{ap, sym, subst, ◌∙◌}
use Rattle.chart_warnings.specs.Names.{within}
use Rattle.chart_warnings.specs.Inside.Marks.{Tells, all_by, marked}
use Rattle.chart_warnings.proofs.Marking.{tells_marked}
use Rattle.chart_warnings.proofs.inside.named_within.Goals as goal

pub returns : goal.returns
returns c =
    subst (λ ms. Tells (all_by c.args.way (within c.args.regions.now)) c.args.count ms)
    (sym (c.mark_regions.ensures ∙ ap (λ ms. marked (all_by c.args.way (within c.args.regions.now)) ms) c.in_ok-marks.ensures))
    (tells_marked (all_by c.args.way (within c.args.regions.now)) c.args.count)
