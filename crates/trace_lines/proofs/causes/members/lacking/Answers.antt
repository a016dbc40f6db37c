use Rattle.std.proofs.lemmas.Grind.{common_steps}
use Rattle.std.proofs.Common.{◌≡◌, ◌∙◌, ap, sym, is_some, true, string_bytes, arith}
use Rattle.serde_json.specs.View.{view, members_view}
use Rattle.trace_lines.specs.Line.{given}
use Rattle.trace_lines.specs.Cause.{first_without}
use Rattle.trace_lines.proofs.Lacking.{passed_over}
use Rattle.trace_lines.proofs.causes.members.lacking.Goals as goal

pub loop-name-preserved : goal.loop-name-preserved
loop-name-preserved c =
    let variables = c.args.variables.now in
    let gives : is_some (given variables (string_bytes c.in-Some.name.now) (view c.in-Some.json.now)) ≡ true =
    rw c.as_str.ensures.value at (sym c.gives.ensures ∙ c.if-not-gives.false) in
    c.loop-name.invariant
    ∙ ap (λ left. first_without variables (members_view left)) c.in-Some.ensures.steps
    ∙ passed_over variables (string_bytes c.in-Some.name.now) (view c.in-Some.json.now) (members_view c.next.new.self) gives

pub returns-then-not-gives : goal.returns-then-not-gives
returns-then-not-gives c = grind (arith, common_steps) steps 2000000
