use Rattle.node_states.specs.Nodes.{state_of_node}
use Rattle.compiled_charts_laws.proofs.Told.{nodes_stand}
use Rattle.compiled_charts_laws.proofs.Ticks.{one_reaction}
use Rattle.compiled_charts_laws.proofs.charts_have_one_reaction.Goals as goal

pub returns : goal.returns
returns c = λ chart p q low valid. one_reaction chart p q low valid (state_of_node chart) (nodes_stand chart p low)
