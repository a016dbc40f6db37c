use Rattle.std.proofs.Common.{◌≡◌, ◌∙◌, ◌++◌, ap, sym, option_map, Some, string_bytes}
use Rattle.serde_json.specs.View.{view, members_view}
use Rattle.trace_lines.specs.Line.{given, inputs_of}
use Rattle.trace_lines.proofs.Given.{inputs_of-one_more}
use Rattle.trace_lines.proofs.line.inputs_by.Goals as goal

pub loop-name-preserved : goal.loop-name-preserved
loop-name-preserved c =
    let variables = c.args.variables.now in
    let rest = members_view c.next.new.self in
    let gives : given variables (string_bytes c.in-Some.name.now) (view c.in-Some.json.now) ≡ Some c.in-Some-given.input =
    rw c.as_str.ensures.value at (sym c.in-Some-given.ensures) in
    c.loop-name.invariant
    ∙ ap (λ left. option_map (λ ys. c.loop-name.inputs.items ++ ys) (inputs_of variables (members_view left))) c.in-Some.ensures.steps
    ∙ inputs_of-one_more variables c.loop-name.inputs.items (string_bytes c.in-Some.name.now) (view c.in-Some.json.now) rest c.in-Some-given.input gives
    ∙ ap (λ stand. option_map (λ ys. stand ++ ys) (inputs_of variables rest)) (sym c.in_ok-push-in-Some-given.ensures)
