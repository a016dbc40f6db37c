use Rattle.std.proofs.Common.{◌≡◌, ◌∙◌, [], ◌∷◌, ◌++◌, Some, true, sym, rules}
use Rattle.sc_values.specs.Operator.{initial_value}
use Rattle.trace_lines.specs.Line.{input_of}
use Rattle.trace_lines.specs.Inside.Ordered.{is_behind_last}
use Rattle.trace_lines.proofs.Expecting.{lists_more}
use Rattle.trace_lines.proofs.expected.add.Goals as goal

pub returns-in_ok-push-in-Some : goal.returns-in_ok-push-in-Some
returns-in_ok-push-in-Some c =
    let variables = c.args.variables.now in
    let es = c.args.inputs.now.items in
    let input = c.in-Some.input.now in
    let named : input_of variables c.args.name.now ≡ Some input = sym (c.in-Some.ensures ∙ c.requires.named c.args.name.now) in
    let behind : is_behind_last input.name es ≡ true = search rules in
    let more : c.push.new.self.items ≡ es ++ (input.name, initial_value input.kind) ∷ [] = search rules in
    lists_more variables es c.push.new.self.items c.args.name.now input c.requires.lists named behind more
