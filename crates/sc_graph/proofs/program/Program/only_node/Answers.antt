use Rattle.std.proofs.Common.{ℕ, IsSome, ◌↔◌, Option, subst, sym}
use Rattle.sc_graph.specs.Structure.{ExactlyOne}
use Rattle.sc_graph.specs.Inside.Links.{IsLink}
use Rattle.sc_graph.proofs.Linking.{link_told}
use Rattle.sc_graph.proofs.program.Program.only_node.Goals as goal

pub returns-in-Some-clause-once : goal.returns-in-Some-clause-once
returns-in-Some-clause-once c =
    let p = c.args.self.now in
    let told = rw c.in-Some.is at c.requires.links in
    subst (λ (o : Option ℕ). IsSome o ↔ ExactlyOne (IsLink p c.args.link)) (sym c.only.ensures)
    (link_told p c.in-Some.links.now c.args.link told c.requires.within).once
