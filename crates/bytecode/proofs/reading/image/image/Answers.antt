use Rattle.std.proofs.Common.{◌≡◌, ◌∙◌, Err, List, ℕ, Result, ap, arith}
use Rattle.std.proofs.lemmas.Result.{err_from_is_err_and}
use Rattle.bytecode.specs.declared.fault.DecodeFault.{DecodeFault}
use Rattle.bytecode.specs.declared.fault.DecodeFault.TheVariants as fault
use Rattle.bytecode.proofs.Decoding.{headed}
use Rattle.bytecode.proofs.Offsets.{header_remembers}
use Rattle.bytecode.proofs.reading.image.image.Goals as goal

pub returns-in_err-rest-clause-memory : goal.returns-in_err-rest-clause-memory
returns-in_err-rest-clause-memory c = λ e.
    let p = err_from_is_err_and c.from_residual.result c.from_residual.ensures.1 in
    let told = p.1 in
    let was = p.2 in
    let same : c.in_err-rest.field-0.0 ≡ fault.Memory = cc in
    let failed : DecodeFault → Result (List ℕ) DecodeFault = λ f. Err f in
    absurd (header_remembers c.args.version c.args.bytes.now (c.in_err-rest.ensures ∙ ap failed same))

pub returns-clause-memory : goal.returns-clause-memory
returns-clause-memory c = λ e. headed c.args.version c.args.bytes.now c.in_ok-rest.rest.now (λ i. omega (arith, c.type_inv.bytes i)) c.in_ok-rest.ensures
