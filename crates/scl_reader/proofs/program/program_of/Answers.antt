use Rattle.std.proofs.Common.{◌∙◌, ap, rules}
use Rattle.sc_text.specs.Flaws.{variable_names}
use Rattle.sc_text.specs.Resolved.{variables_of}
use Rattle.scl_reader.specs.Resolved.{statements_of}
use Rattle.scl_reader.proofs.SclRulesKept.{parts_kept, parts_are, few_declared}
use Rattle.scl_reader.proofs.program.program_of.Goals as goal

pub known-requires : goal.known-requires
known-requires c =
    parts_kept c.args.draft.now c.in_ok-scope.scope.variables.now c.requires.flawless (c.in_ok-scope.ensures ∙ c.as_slice-2.ensures)
    c.in_ok-variables.variables c.in_ok-body.body c.requires.shaped
    (c.in_ok-variables.ensures ∙ ap variables_of c.as_slice.ensures)
    (c.in_ok-body.ensures ∙ ap (statements_of (variable_names c.in_ok-scope.scope.variables.now)) c.as_slice-3.ensures)

pub returns : goal.returns
returns c =
    parts_are c.args.draft.now c.in_ok-scope.scope.variables.now c.requires.flawless (c.in_ok-scope.ensures ∙ c.as_slice-2.ensures)
    c.in_ok-variables.variables c.in_ok-body.body c.known.result
    (c.in_ok-variables.ensures ∙ ap variables_of c.as_slice.ensures)
    (c.in_ok-body.ensures ∙ ap (statements_of (variable_names c.in_ok-scope.scope.variables.now)) c.as_slice-3.ensures)
    c.known.ensures.name c.known.ensures.variables c.known.ensures.body

pub statements-requires : goal.statements-requires
statements-requires c = search (rules, few_declared)
