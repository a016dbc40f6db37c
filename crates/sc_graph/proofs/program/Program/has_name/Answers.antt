use mathlib.Core.Bool.{true≢false}
use Rattle.std.proofs.Common.{◌≡◌, Some, None, slice_get, sym, arith}
use Rattle.std.proofs.lemmas.Grind.{common_steps}
use Rattle.std.proofs.lemmas.Option.{gets}
use Rattle.sc_graph.proofs.Names.{name_decides, no_name}
use Rattle.sc_graph.proofs.program.Program.has_name.Goals as goal

pub returns-in-Some : goal.returns-in-Some
returns-in-Some c =
    let at : slice_get c.args.self.now.variables c.args.variable ≡ Some c.in-Some.found.now = grind (
      arith,
      common_steps,
      gets,
      c.in-Some.ensures.lookup,
      c.variables.ensures,
    ) in
    name_decides c.args.self.now c.args.variable c.in-Some.found.now c.args.name.now c.eq.result at c.eq.ensures

pub returns-in-None : goal.returns-in-None
returns-in-None c =
    let none : slice_get c.args.self.now.variables c.args.variable ≡ None = grind (arith, common_steps, gets, c.in-None.ensures.lookup, c.variables.ensures) in
    (λ yes. absurd (true≢false (sym yes)), λ e. absurd (no_name c.args.self.now c.args.variable c.args.name.now none e))
