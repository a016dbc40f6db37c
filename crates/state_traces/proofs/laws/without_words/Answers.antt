use Rattle.sc_graph.specs.Tick.{initial}
use Rattle.state_traces.proofs.Plain.{of_plain, to_plain}
use Rattle.state_traces.proofs.laws.without_words.Goals as goal

pub returns : goal.returns
returns c = λ image lines out end. (to_plain image 1 (initial image.program) lines out end, of_plain image 1 (initial image.program) lines out end)
