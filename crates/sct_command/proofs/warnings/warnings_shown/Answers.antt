use Rattle.std.proofs.Common.{rules}
use Rattle.sct_command.proofs.warnings.warnings_shown.Goals as goal

pub returns-then-begins_extended : goal.returns-then-begins_extended
returns-then-begins_extended c = search rules
