use Rattle.std.proofs.Common.{rules}
use Rattle.command_files.proofs.images.load_verified.Goals as goal

pub returns-clause-loaded : goal.returns-clause-loaded
returns-clause-loaded g c = search rules
