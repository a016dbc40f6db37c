use Rattle.std.proofs.Common.{◌≡◌, ◌+◌, [], ◌∷◌, drop, ap, sym}
use Rattle.std.proofs.lemmas.List.{drop_all}
use Rattle.scl_printer.specs.Layout.{declarations_text}
use Rattle.scl_printer.proofs.Written.{follows, nothing, written_as, split_at}
use Rattle.scl_printer.proofs.program.write_declarations.Goals as goal

pub loop-variable-preserved : goal.loop-variable-preserved
loop-variable-preserved g c = λ new h.
    let xs : _ = c.args.variables.now in
    let i : _ = c.loop-variable.variable-index in
    let split : drop i xs ≡ c.variable-item.result ∷ drop (i + 1) xs = split_at xs i c.variable-item.result c.loop-variable-test.true c.variable-item.is in
    c.loop-variable.invariant new (written_as _ _ _ _ (sym (ap declarations_text split)) (follows _ _ _ _ _ c.write_declaration.ensures h))

pub returns : goal.returns
returns g c =
    let xs : _ = c.args.variables.now in
    let i : _ = c.loop-variable.variable-index in
    let none : drop i xs ≡ [] = drop_all i xs c.loop-variable-test.false in
    c.loop-variable.invariant _ (written_as _ _ _ _ (sym (ap declarations_text none)) (nothing _))
