use Rattle.command_files.proofs.Naming.{one_line}
use Rattle.command_files.proofs.laws.one_line.Goals as goal

pub returns : goal.returns
returns c = one_line
