use Rattle.trace_lines.proofs.Behind.{leads_on}
use Rattle.trace_lines.proofs.causes.recent.kept_on.Goals as goal

pub returns-in-Ok : goal.returns-in-Ok
returns-in-Ok c =
    leads_on c.args.kept.now c.args.more.now c.in_ok-last.last.now c.in-Ok.all.items c.args.before c.in_ok-last.before c.in_ok-last.ensures c.in-Ok.ensures
