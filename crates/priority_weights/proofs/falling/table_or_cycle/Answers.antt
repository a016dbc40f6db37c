use Rattle.std.proofs.lemmas.Grind.{common_steps}
use Rattle.std.proofs.Common.{ℕ, subst, arith}
use Rattle.std.specs.Prelude.{slice_index}
use Rattle.least_or_cycle.specs.Least.{IsWithin}
use Rattle.least_or_cycle.specs.Walks.{Falls}
use Rattle.priority_weights.proofs.Asking.{least_alike}
use Rattle.priority_weights.proofs.falling.table_or_cycle.Goals as goal

pub returns-in-Some-2 : goal.returns-in-Some-2
returns-in-Some-2 g c =
    let least = rw c.in-Some-2.is at c.in_ok-table.ensures.least in
    let P : ℕ → Type 0 = λ top. IsWithin c.args.count top (slice_index c.in-Some-2.table.items) in (
      least_alike (g.G.NumberRule.keeps c.args.graph.now) (Falls (g.G.Graph.leads c.args.graph.now)) c.args.count c.in-Some-2.table.items c.requires least,
      subst P c.from.ensures (c.in_ok-table.ensures.within c.in-Some-2.table c.in-Some-2.is),
    )

pub returns-in-Some-3 : goal.returns-in-Some-3
returns-in-Some-3 g c = grind (arith, common_steps) steps 2000000
