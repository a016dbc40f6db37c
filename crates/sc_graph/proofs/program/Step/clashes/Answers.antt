use Rattle.std.proofs.lemmas.Grind.{common_steps}
use Rattle.std.proofs.Common.{◌≡◌, ◌≢◌, true, rules, arith}
use Rattle.sc_graph.proofs.Clashing.{clash_inits, clash_updates}
use Rattle.sc_graph.proofs.program.Step.clashes.Goals as goal

pub returns-then-x-y : goal.returns-then-x-y
returns-then-x-y c =
    let w = c.in-Assign-Assign in
    clash_inits c.args.self.now c.args.other.now w.x w.y w.next-0 w.next-1 w.a w.b c.are_one_literal.result w.is-0 w.is-1 c.if-x-y.true
    c.are_one_literal.ensures

pub returns-then-u-v : goal.returns-then-u-v
returns-then-u-v c =
    let w = c.in-Update-Update in
    let to : c.ne.result ≡ true → w.f ≢ w.g = search rules in
    let from : w.f ≢ w.g → c.ne.result ≡ true = search rules in
    clash_updates c.args.self.now c.args.other.now w.u w.v w.next-0 w.next-1 w.f w.g w.code-0 w.code-1 c.ne.result w.is-0 w.is-1 c.if-u-v.true to from

pub returns-else-x-y : goal.returns-else-x-y
returns-else-x-y c = grind (arith, common_steps) steps 2000000

pub returns-else-u-v : goal.returns-else-u-v
returns-else-u-v c = grind (arith, common_steps) steps 2000000
