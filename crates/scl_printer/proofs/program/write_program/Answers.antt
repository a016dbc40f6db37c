use Rattle.std.proofs.Common.{List, map, ap, subst, sym, ◌∙◌}
use Rattle.sc_graph.specs.declared.program.Variable.{Variable}
use Rattle.scl.specs.declared.statement.Statement.{Statement}
use Rattle.scl.specs.Rules.{in_row, part_of}
use Rattle.scl_printer.specs.Inside.Levels.{HasLevels}
use Rattle.scl_printer.specs.Layout.{declarations_text, statements_text}
use Rattle.scl_printer.proofs.Written.{follows, written_as}
use Rattle.scl_printer.proofs.Nested.{program_levels}
use Rattle.scl_printer.proofs.program.write_program.Goals as goal

pub write_statements-requires : goal.write_statements-requires
write_statements-requires g c =
    let At : List Statement → Type 0 = λ ss. HasLevels 1 (in_row (map part_of ss)) in
    subst At (sym c.as_slice.ensures) (program_levels c.args.scl.now.name c.args.scl.now.variables c.args.scl.now.body c.args.scl.now.kept)

pub returns : goal.returns
returns g c =
    let vs : List Variable = c.args.scl.now.variables in
    follows _ _ _ _ _ c.write_head.ensures
    (follows _ _ _ _ _ (written_as _ _ _ _ (ap declarations_text c.as_slice-variables.ensures) c.write_declarations.ensures)
    (follows _ _ _ _ _ (written_as _ _ _ _ (ap (λ v. statements_text v c.as_slice.result.now 1) c.as_slice-variables.ensures
    ∙ ap (λ b. statements_text vs b 1) c.as_slice.ensures) c.write_statements.ensures) c.write_line.ensures))
