use Rattle.std.proofs.Common.{ℕ, List, ◌++◌, codes}
use Rattle.scl_printer.specs.Layout.{role_prefix, kind_prefix}
use Rattle.scl_printer.proofs.Written.{follows, written_as}
use Rattle.scl_printer.proofs.Lined.{as_line, ends_fourth}
use Rattle.scl_printer.proofs.lines.write_declaration.Goals as goal

pub returns : goal.returns
returns g c =
    let role : List ℕ = role_prefix c.args.variable.now.role in
    let kind : List ℕ = kind_prefix c.args.variable.now.kind in
    let name : List ℕ = c.args.variable.now.name in
    as_line _ _ _ 1 (role ++ (kind ++ (name ++ codes ";"))) _ (ends_fourth role kind name (codes ";")) c.indent.ensures
    (follows _ _ _ _ _ (written_as _ _ _ _ c.role_prefix.ensures c.put_text.ensures)
    (follows _ _ _ _ _ (written_as _ _ _ _ c.kind_prefix.ensures c.put_text-2.ensures)
    (follows _ _ _ _ _ (written_as _ _ _ _ c.as_bytes.ensures.value c.put.ensures) c.put_text-3.ensures)))
