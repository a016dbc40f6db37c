use Rattle.std.proofs.Common.{◌↔◌, Bool, subst, sym}
use Rattle.std.specs.Prelude.{IsTrue}
use Rattle.sc_graph.specs.Structure.{ForksChild, ExactlyOne}
use Rattle.sc_graph.proofs.Formed.{forked_decides}
use Rattle.sc_graph.proofs.program.Program.is_forked_once.Goals as goal

pub returns-else-thread-eq0 : goal.returns-else-thread-eq0
returns-else-thread-eq0 c =
    let p = c.args.self.now in
    let t = c.args.thread in
    forked_decides p t c.is_some.result c.if-thread-eq0.false
    (subst (λ (b : Bool). IsTrue b ↔ ExactlyOne (ForksChild p t)) (sym c.is_some.ensures) c.only_node.ensures.once)
