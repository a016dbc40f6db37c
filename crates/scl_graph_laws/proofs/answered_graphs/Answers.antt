use Rattle.std.proofs.Common.{sym, subst}
use Rattle.sc_graph.specs.Valid.{IsFormed}
use Rattle.scl.specs.Numbering.{numbered}
use Rattle.scl_graph_laws.specs.Keeps.{Keeps}
use Rattle.scl_graph_laws.specs.Laws.{KeepsStepRules}
use Rattle.scl_graph_laws.proofs.RunsKept.{program_keeps_runs}
use Rattle.scl_graph_laws.proofs.Forming.{program_is_formed}
use Rattle.scl_graph_laws.proofs.StepRules.{program_keeps_step_rules}
use Rattle.scl_graph_laws.proofs.answered_graphs.Goals as goal

pub returns : goal.returns
returns c = λ p q kept h. (
  subst (λ q. Keeps (numbered p) q) (sym h.is) (program_keeps_runs p kept h.no_loop),
  subst IsFormed (sym h.is) (program_is_formed p kept h.no_loop h.fits),
  subst KeepsStepRules (sym h.is) (program_keeps_step_rules p kept h.no_loop h.fits),
)
