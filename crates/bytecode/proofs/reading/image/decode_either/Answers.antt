use Rattle.std.proofs.Common.{ℕ, subst, arith}
use Rattle.std.specs.Prelude.{IfOk}
use Rattle.bytecode.specs.Layout.{HasHeader}
use Rattle.bytecode.specs.Spells.{Spells}
use Rattle.bytecode.specs.Reading.Image.{reading, version_of, Answers}
use Rattle.bytecode.proofs.Decoding.{is_found, reading_of_spelt}
use Rattle.bytecode.proofs.Offsets.{fault_within}
use Rattle.bytecode.proofs.reading.image.decode_either.Goals as goal

pub returns-clause-found : goal.returns-clause-found
returns-clause-found c =
    subst (λ (v : ℕ). IfOk c.read.result (λ i. Spells v c.args.bytes.now i)) c.version_said.ensures
    (is_found c.version_said.result c.args.bytes.now c.read.result (λ i. omega (arith, c.type_inv.bytes i)) c.read.ensures.answers)

pub returns-clause-only : goal.returns-clause-only
returns-clause-only c = λ i spells.
    let exact = subst (λ (v : ℕ). Answers c.read.result (reading v c.args.bytes.now)) c.version_said.ensures c.read.ensures.answers in
    subst (Answers c.read.result) (reading_of_spelt (version_of c.args.bytes.now) c.args.bytes.now i spells) exact

pub returns-clause-exact : goal.returns-clause-exact
returns-clause-exact c = subst (λ (v : ℕ). Answers c.read.result (reading v c.args.bytes.now)) c.version_said.ensures c.read.ensures.answers

pub returns-clause-memory : goal.returns-clause-memory
returns-clause-memory c = λ refused. subst (λ (v : ℕ). HasHeader v c.args.bytes.now) c.version_said.ensures (c.read.ensures.memory refused)

pub returns-clause-within : goal.returns-clause-within
returns-clause-within c = λ offset is. fault_within c.version_said.result c.args.bytes.now c.read.result offset c.read.ensures.answers is
