use Rattle.std.proofs.Common.{Err, sym, ap, subst}
use Rattle.bytecode.specs.declared.fault.DecodeFault.{DecodeFault}
use Rattle.bytecode.specs.Reading.Image.{reading, Answers}
use Rattle.bytecode.proofs.Decoding.{reads_image, reads_fault, told_memory}
use Rattle.bytecode.proofs.reading.image.read.Goals as goal

pub returns-in-Ok-clause-answers : goal.returns-in-Ok-clause-answers
returns-in-Ok-clause-answers c = reads_image c.args.version c.args.bytes.now c.in-Ok.image c.in-Ok.ensures.gives

pub returns-in-Err-clause-answers : goal.returns-in-Err-clause-answers
returns-in-Err-clause-answers c =
    subst (λ (f : DecodeFault). Answers (Err f) (reading c.args.version c.args.bytes.now)) (sym c.in_bytes.ensures)
    (reads_fault c.args.version c.args.bytes.now c.in-Err.fault c.in-Err.ensures.gives)

pub returns-in-Err-clause-memory : goal.returns-in-Err-clause-memory
returns-in-Err-clause-memory c = λ e.
    let told = c.in_bytes.ensures in
    let named = told_memory c.args.bytes.now c.in-Err.fault cc in
    c.in-Err.ensures.memory (ap (λ (f : DecodeFault). Err f) named)
