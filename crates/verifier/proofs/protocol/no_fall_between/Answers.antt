use Rattle.std.proofs.lemmas.Grind.{common_steps}
use Rattle.std.proofs.Common.{ℕ, get_or, arith, below_more}
use Rattle.std.specs.Prelude.{Contains}
use Rattle.program_edges.specs.AlongVariables.{FallsTo}
use Rattle.program_edges.proofs.Variables.{of_each}
use Rattle.verifier.proofs.protocol.no_fall_between.Goals as goal

pub loop-m-preserved : goal.loop-m-preserved
loop-m-preserved c =
    let P : ℕ → Type 0 = λ k. (n : ℕ) → Contains c.args.seconds.now n
    → FallsTo c.args.program.now c.args.tables.now.priorities (get_or c.args.firsts.now k 0) n in
    below_more P _ c.loop-m.invariant c.in_default.ensures

pub returns : goal.returns
returns c =
    let P : ℕ → Type 0 = λ m. (n : ℕ) → Contains c.args.seconds.now n → FallsTo c.args.program.now c.args.tables.now.priorities m n in
    λ m n a b. of_each c.args.firsts.now P (λ k h. c.loop-m.invariant k (omega (arith, h))) m a n b

pub returns-in-Some : goal.returns-in-Some
returns-in-Some c = grind (arith, common_steps) steps 2000000
