use Rattle.extended_reader.proofs.Reading.{shaped}
use Rattle.extended_reader.proofs.Exactly.{read_exactly}
use Rattle.std.proofs.Common.{rules}
use Rattle.extended_reader.proofs.read.read_extended.Goals as goal

pub returns-clause-ok : goal.returns-clause-ok
returns-clause-ok c = search rules

pub extended_of-made-requires-clause-shaped : goal.extended_of-made-requires-clause-shaped
extended_of-made-requires-clause-shaped c = search (rules, shaped)

pub returns-clause-exact : goal.returns-clause-exact
returns-clause-exact c = search (rules, read_exactly)
