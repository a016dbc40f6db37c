use Rattle.std.proofs.Common.{Ok, sym, ap, ◌∙◌, arith}
use Rattle.bytecode.specs.Image.{Image}
use Rattle.bytecode.proofs.Decoding.{columns_fit}
use Rattle.bytecode.proofs.ImageRows.{image_is}
use Rattle.bytecode.proofs.reading.image.body.Goals as goal

pub image_from-requires-clause-fits : goal.image_from-requires-clause-fits
image_from-requires-clause-fits c =
    let p = c.all_parts.new.parts in
    let e = c.in-Ok.ensures in
    (columns_fit c.args.version) c.args.bytes.now p.variables p.threads.threads p.threads.bounds p.nodes.nodes p.nodes.priorities p.nodes.weights
    p.nodes.end_bits p.budget
    (λ i. omega (arith, c.type_inv.bytes i)) e.threads e.nodes e.gives

pub returns-in-Ok : goal.returns-in-Ok
returns-in-Ok c =
    let p = c.all_parts.new.parts in
    let e = c.in-Ok.ensures in
    let made = image_is p.variables p.threads.threads p.threads.bounds p.nodes.nodes p.nodes.priorities p.nodes.weights p.nodes.end_bits p.budget _ _ e.threads
    e.nodes in
    e.gives ∙ ap (λ (i : Image). Ok i) (made ∙ sym c.image_from.ensures)
