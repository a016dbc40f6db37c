use Rattle.bytecode.proofs.Decoding.{reading_spells, reading_of_spelt, all_bytes}
use Rattle.bytecode.proofs.laws.reading_is_spelling.Goals as goal

pub returns : goal.returns
returns c = λ version bytes i all. (reading_spells version bytes i (all_bytes bytes all), reading_of_spelt version bytes i)
