use Rattle.bytecode.proofs.Versions.{spelled_in_2}
use Rattle.bytecode.proofs.laws.version_1_is_spelled_in_version_2.Goals as goal

pub returns : goal.returns
returns c = spelled_in_2
