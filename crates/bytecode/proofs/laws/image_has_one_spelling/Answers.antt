use Rattle.std.proofs.Common.{sym, ◌∙◌}
use Rattle.bytecode.proofs.laws.image_has_one_spelling.Goals as goal

pub returns : goal.returns
returns c = λ version a b i of_a of_b. of_a.spelt ∙ sym of_b.spelt
