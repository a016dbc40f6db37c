use Rattle.std.proofs.Common.{rules}
use Rattle.command_texts.proofs.Drawn.{graph_drawn, no_graph}
use Rattle.command_texts.proofs.draw.draw_graph.Goals as goal

pub returns-in-Ok-graph_of-clause-drawn : goal.returns-in-Ok-graph_of-clause-drawn
returns-in-Ok-graph_of-clause-drawn c = graph_drawn _ _ _ c.requires c.in-Ok.ensures.ok c.in-Ok-graph_of.ensures

pub returns-clause-fault : goal.returns-clause-fault
returns-clause-fault c = search (rules, no_graph)
