use Rattle.std.proofs.Common.{◌∙◌}
use Rattle.trace_lines.proofs.KeptLines.{set_there, one_more_kept}
use Rattle.trace_lines.proofs.kept_line.keep.Goals as goal

pub returns-clause-kept : goal.returns-clause-kept
returns-clause-kept c = λ variables are says. one_more_kept variables _ _ _ are (c.set.ensures.kept variables says)

pub returns-clause-inputs : goal.returns-clause-inputs
returns-clause-inputs c = set_there c.args.kept.now.items c.args.slot c.set.new.self c.requires ∙ c.set.ensures.inputs
