use Rattle.bytecode.proofs.Decoding.{all_bytes}
use Rattle.bytecode.proofs.BadImages.{told_is_bad}
use Rattle.bytecode.proofs.laws.told_field_is_bad.Goals as goal

pub returns : goal.returns
returns c = λ version bytes offset all. told_is_bad version bytes offset (all_bytes bytes all)
