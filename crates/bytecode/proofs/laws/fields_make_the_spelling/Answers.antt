use Rattle.bytecode.proofs.BadImages.{fields_spelt}
use Rattle.bytecode.proofs.laws.fields_make_the_spelling.Goals as goal

pub returns : goal.returns
returns c = fields_spelt
