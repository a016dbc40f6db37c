use Rattle.std.proofs.lemmas.Grind.{elements}
use Rattle.std.proofs.Common.{◌≡◌, ◌≤◌, ◌++◌, ◌∷◌, [], Some, slice_get, sym, rules, arith}
use Rattle.trace_lines.specs.Inside.Ordered.{with_given}
use Rattle.trace_lines.proofs.Expecting.{given_last, given_among}
use Rattle.trace_lines.proofs.giving.give.Goals as goal

pub returns-then-from-place : goal.returns-then-from-place
returns-then-from-place c =
    let es = c.args.inputs.now in
    let found = c.args.found.now.items in
    let input = c.in-Some.input.now in
    let there : slice_get es c.args.given.0 ≡ Some input = sym c.in-Some.ensures in
    let is : c.push.new.found.items ≡ found ++ (input.0, c.args.given.1) ∷ [] = search rules in
    let later : c.args.from ≤ c.args.given.0 = search rules in
    given_last es found c.push.new.found.items c.args.from c.args.given input c.requires.order c.requires.found c.requires.behind later there is

pub returns : goal.returns
returns c =
    let es = c.args.inputs.now in
    let found = c.args.found.now.items in
    let input = c.in-Some.input.now in
    let there : slice_get es c.args.given.0 ≡ Some input = sym c.in-Some.ensures in
    let is : c.put.new.found.items ≡ with_given (input.0, c.args.given.1) found = search rules in
    given_among es found c.put.new.found.items c.args.given input there is

pub overflow_add-result : goal.overflow_add-result
overflow_add-result c = grind (arith, elements) steps 2000000
