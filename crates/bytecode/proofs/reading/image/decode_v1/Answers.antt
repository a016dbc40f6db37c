use Rattle.std.proofs.Common.{subst, arith}
use Rattle.bytecode.specs.Reading.Image.{Answers}
use Rattle.bytecode.proofs.Decoding.{is_found, reading_of_spelt}
use Rattle.bytecode.proofs.Offsets.{fault_within}
use Rattle.bytecode.proofs.reading.image.decode_v1.Goals as goal

pub returns-clause-found : goal.returns-clause-found
returns-clause-found c = is_found 1 c.args.bytes.now c.read.result (λ i. omega (arith, c.type_inv.bytes i)) c.read.ensures.answers

pub returns-clause-only : goal.returns-clause-only
returns-clause-only c = λ i spells. subst (Answers c.read.result) (reading_of_spelt 1 c.args.bytes.now i spells) c.read.ensures.answers

pub returns-clause-within : goal.returns-clause-within
returns-clause-within c = λ offset is. fault_within 1 c.args.bytes.now c.read.result offset c.read.ensures.answers is
