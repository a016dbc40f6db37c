use Rattle.compiler.proofs.Spelling.{spells}
use Rattle.std.proofs.Common.{rules}
use Rattle.compiler.proofs.sources.source.read_source.Goals as goal

pub returns-clause-spells : goal.returns-clause-spells
returns-clause-spells c = search (rules, spells)
