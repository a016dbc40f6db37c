use Rattle.bytecode.proofs.Decoding.{one_image}
use Rattle.bytecode.proofs.laws.bytes_spell_one_image.Goals as goal

pub returns : goal.returns
returns c = one_image
