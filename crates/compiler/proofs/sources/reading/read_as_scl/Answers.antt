use Rattle.scl_reader.proofs.Reading.{shaped}
use Rattle.std.proofs.Common.{rules}
use Rattle.compiler.proofs.sources.reading.read_as_scl.Goals as goal

pub program_of-requires-clause-shaped : goal.program_of-requires-clause-shaped
program_of-requires-clause-shaped c = search (rules, shaped)
