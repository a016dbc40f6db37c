use Rattle.std.proofs.Common.{subst}
use Rattle.scl_graph.specs.Inside.Gathering.{Noted, Notes}
use Rattle.scl_graph.proofs.Placed.{noted}
use Rattle.scl_graph.proofs.labels.Labels.note.Goals as goal

pub returns : goal.returns
returns c =
    let new : Noted = c.push.new.self.items in
    subst (λ old. Notes c.args.name c.args.landing old new) c.self.view_is
    (noted c.args.name c.args.landing c.self.inside.noted.items new c.in_ok-push.ensures.items)
