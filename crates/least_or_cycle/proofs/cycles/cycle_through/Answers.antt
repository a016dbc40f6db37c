use Rattle.std.proofs.lemmas.Grind.{elements, common_steps}
use Rattle.std.proofs.Common.{ℕ, List, subst, arith}
use Rattle.least_or_cycle.specs.Walks.{LeadsStrictlyTo}
use Rattle.least_or_cycle.proofs.Cutting.{cut}
use Rattle.least_or_cycle.proofs.cycles.cycle_through.Goals as goal

pub returns : goal.returns
returns g c =
    let leads = g.G.Graph.leads c.args.graph.now in
    let found = c.in_ok-ranks.ensures in
    let P : List ℕ → Type 0 = λ xs. (n : ℕ) → ¬ LeadsStrictlyTo leads xs c.args.node n in
    cut leads c.args.count c.args.node c.in_ok-ranks.ranks.items found.long found.ranks found.complete
    (subst P c.as_slice.ensures.value (λ n. c.in-None.ensures n))

pub returns-in-Some : goal.returns-in-Some
returns-in-Some g c = grind (arith, elements) steps 2000000

pub closed-requires-clause-ranks : goal.closed-requires-clause-ranks
closed-requires-clause-ranks g c = grind (arith, common_steps) steps 2000000

pub closed-requires-clause-first : goal.closed-requires-clause-first
closed-requires-clause-first g c = grind (arith, common_steps) steps 2000000
