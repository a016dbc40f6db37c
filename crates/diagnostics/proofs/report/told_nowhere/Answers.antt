use Rattle.std.proofs.Common.{◌++◌, codes, string_bytes}
use Rattle.diagnostics.proofs.Nowhere.{told_in}
use Rattle.diagnostics.proofs.report.told_nowhere.Goals as goal

pub returns : goal.returns
returns c = told_in string_bytes c.args.name.now c.args.fault.now (c.args.said.now ++ codes "\n") c.format.result c.format.ensures.ok
