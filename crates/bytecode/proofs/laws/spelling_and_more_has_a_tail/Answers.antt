use Rattle.bytecode.proofs.Decoding.{all_bytes}
use Rattle.bytecode.proofs.Beginnings.{tail_is_read, read_with_tail}
use Rattle.bytecode.proofs.laws.spelling_and_more_has_a_tail.Goals as goal

pub returns : goal.returns
returns c = λ version bytes all. (tail_is_read version bytes (all_bytes bytes all), read_with_tail version bytes)
