use Rattle.extended_reader.proofs.Reserved.{free}
use Rattle.std.proofs.Common.{rules}
use Rattle.extended_reader.proofs.modules.well.is_reserved.Goals as goal

pub returns-in-None : goal.returns-in-None
returns-in-None c = search (rules, free)
