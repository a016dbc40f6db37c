use Rattle.std.proofs.Common.{◌≡◌, ◌∙◌, ap, subst, length, rules}
use Rattle.trace_lines.specs.Output.{outputs_of, tick_line}
use Rattle.trace_lines.specs.Inside.Rows.{rows_text, line_by, ShowsOutputs}
use Rattle.trace_lines.proofs.Shown.{line_is, written}
use Rattle.trace_lines.proofs.interface.Interface.write_line.Goals as goal

pub returns : goal.returns
returns c =
    let rows = c.self.inside.outputs.items in
    let variables = c.args.self.now in
    let values = c.args.values.now in
    let line = line_by c.args.tick c.args.steps in
    let shows : ShowsOutputs variables rows = subst (λ vs. ShowsOutputs vs rows) c.self.view_is c.self.invariant.1 in
    let long : length values ≡ length variables = search rules in
    let same : line (rows_text c.deref.result.now values) ≡ tick_line c.args.tick c.args.steps (outputs_of variables values) =
    ap (λ rs. line (rows_text rs values)) c.deref.ensures.value
    ∙ line_is c.args.tick c.args.steps (rows_text rows values) (outputs_of variables values) (shows values long) in
    written c.write_line.result c.write_line.new.line.items (line (rows_text c.deref.result.now values)) _ same c.write_line.ensures
