use Rattle.scl_graph_laws.proofs.StepRules.{program_keeps_step_rules}
use Rattle.scl_graph_laws.proofs.programs_keep_step_rules.Goals as goal

pub returns : goal.returns
returns c = program_keeps_step_rules
