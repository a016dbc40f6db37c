use Rattle.std.proofs.Common.{◌≡◌, drop}
use Rattle.sc_graph.specs.Inside.Linking.{noted_all}
use Rattle.sc_graph.proofs.links.note_all.Given as goal

abbrev pub invariant-loop-target : goal.invariant-loop-target
invariant-loop-target l = noted_all (drop l.target-index l.targets) l.node l.slots ≡ noted_all l.targets l.node l.initial.slots
