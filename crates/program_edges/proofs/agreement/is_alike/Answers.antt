use Rattle.program_edges.proofs.Agreeing.{not_both}
use Rattle.program_edges.proofs.agreement.is_alike.Goals as goal

pub returns-then-seen : goal.returns-then-seen
returns-then-seen c = λ t. (c.if-seen.true, λ clash. not_both c.nodes_clash.result t (c.nodes_clash.ensures.1 clash))
