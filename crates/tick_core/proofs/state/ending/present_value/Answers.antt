use Rattle.std.proofs.Common.{◌∙◌, sym, ap, map, option_and_then}
use Rattle.std.specs.Option.{option_copied}
use Rattle.sc_values.specs.Operator.{kind_of}
use Rattle.sc_values.specs.Code.{code_value}
use Rattle.sc_values.specs.Checked.{loaded_from}
use Rattle.sc_values.proofs.Evaluating.{present_kinds}
use Rattle.tick_core.specs.Inside.Work.{value_at}
use Rattle.tick_core.proofs.Fresh.{code_stands}
use Rattle.tick_core.proofs.state.ending.present_value.Goals as goal

pub present-operands-requires : goal.present-operands-requires
present-operands-requires c = (code_stands _ _ c.args.verified.now.tables _ c.requires.standing.0 _ _ _ _ c.requires.valid c.requires.configuration
    c.requires.kinds (c.program.ensures ∙ ap (λ i. i.program) c.image.ensures.value) c.requires.standing.1
    (ap option_copied c.in_ok-code.was) c.code_at.ensures).formed.within.loaded

pub known-requires : goal.known-requires
known-requires c = (code_stands _ _ c.args.verified.now.tables _ c.requires.standing.0 _ _ _ _ c.requires.valid c.requires.configuration
    c.requires.kinds (c.program.ensures ∙ ap (λ i. i.program) c.image.ensures.value) c.requires.standing.1
    (ap option_copied c.in_ok-code.was) c.code_at.ensures).formed

pub eval-requires : goal.eval-requires
eval-requires c =
    let stands = (code_stands _ _ c.args.verified.now.tables _ c.requires.standing.0 _ _ _ _ c.requires.valid c.requires.configuration
    c.requires.kinds (c.program.ensures ∙ ap (λ i. i.program) c.image.ensures.value) c.requires.standing.1
    (ap option_copied c.in_ok-code.was) c.code_at.ensures) in
    ap (map kind_of) (c.present-operands.ensures ∙ ap (λ v. loaded_from v c.in_ok-code.code.now) c.as_slice-variables.ensures)
    ∙ (present_kinds c.args.kinds.now c.in_ok-code.code.now c.args.control.now.variables stands.formed stands.of_kinds ∙ sym c.known.ensures.loads)

pub returns-in-None : goal.returns-in-None
returns-in-None c =
    let stands = (code_stands _ _ c.args.verified.now.tables _ c.requires.standing.0 _ _ _ _ c.requires.valid c.requires.configuration
    c.requires.kinds (c.program.ensures ∙ ap (λ i. i.program) c.image.ensures.value) c.requires.standing.1
    (ap option_copied c.in_ok-code.was) c.code_at.ensures) in
    sym (c.eval.ensures.present c.args.control.now.variables
    (c.present-operands.ensures
    ∙ (ap (λ v. loaded_from v c.in_ok-code.code.now) c.as_slice-variables.ensures
    ∙ ap (loaded_from c.args.control.now.variables) (sym c.known.ensures.operations))))
    ∙ (ap (λ code. code_value code c.args.control.now.variables) c.known.ensures.operations
    ∙ (ap (option_and_then (λ code. code_value code c.args.control.now.variables)) stands.found
    ∙ ap (value_at c.args.verified.now.program c.args.control.now) (sym c.requires.standing.1)))
