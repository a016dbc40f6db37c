use mathlib.Core.Bool.{true≢false}
use Rattle.std.proofs.Common.{refl, IsTrue, sym, ◌∙◌}
use Rattle.program_edges.proofs.Agreeing.{not_both}
use Rattle.program_edges.proofs.agreement.with_node.Goals as goal

pub returns-then-not-is_writer : goal.returns-then-not-is_writer
returns-then-not-is_writer c = record {
  keeps = λ b m noted quiet. absurd (let e : IsTrue c.is_writer.result = c.is_writer.ensures.1 noted.writer in true≢false (sym e ∙ c.if-not-is_writer.true));
  gains = λ quiet. record {
    writer = c.requires;
    together = λ t. refl;
    alike = λ t clash. not_both c.nodes_clash.result t (c.nodes_clash.ensures.1 clash);
    quiet = quiet;
  };
}

pub returns : goal.returns
returns c = record {
  keeps = λ b m noted quiet. record {
    writer = noted.writer;
    together = λ t. noted.together (c.is_together.ensures t).0;
    alike = λ t. noted.alike (c.is_alike.ensures t).0;
    quiet = quiet;
  };
  gains = λ quiet. record {
    writer = c.is_writer.ensures.0 c.if-not-is_writer.false;
    together = λ t. (c.is_together.ensures t).1;
    alike = λ t. (c.is_alike.ensures t).1;
    quiet = quiet;
  };
}
