use Rattle.std.proofs.lemmas.Grind.{common_steps}
use Rattle.std.proofs.Common.{ℕ, ◌≡◌, arith, true}
use Rattle.program_edges.proofs.Variables.{of_each}
use Rattle.program_edges.specs.AlongVariables.{FallsTo}
use Rattle.verifier.proofs.protocol.no_fall_after.Goals as goal

pub returns-then-not-has_company : goal.returns-then-not-has_company
returns-then-not-has_company c = λ n at. record {
  falls = λ x. absurd (let e : c.has_company.result ≡ true = c.has_company.ensures n x in let f = c.if-not-has_company.true in cc);
}

pub returns : goal.returns
returns c =
    let P : ℕ → Type 0 = λ n. FallsTo c.args.program.now c.args.tables.now.priorities c.args.m n in
    of_each c.args.seconds.now P (λ k h. c.loop-n.invariant k (omega (arith, h)))

pub returns-then-not-falls : goal.returns-then-not-falls
returns-then-not-falls c = grind (arith, common_steps) steps 2000000
