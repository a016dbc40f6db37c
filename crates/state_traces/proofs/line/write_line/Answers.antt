use Rattle.state_traces.proofs.Lines.{told}
use Rattle.std.proofs.Common.{rules}
use Rattle.state_traces.proofs.line.write_line.Goals as goal

pub returns : goal.returns
returns g c = search (rules, told)
