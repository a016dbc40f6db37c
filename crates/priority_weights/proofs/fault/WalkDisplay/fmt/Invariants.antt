use Rattle.std.proofs.Common.{take}
use Rattle.std.specs.Fmt.{HasWritten, IsPlainFormatter}
use Rattle.priority_weights.specs.FaultText.{walk_text}
use Rattle.priority_weights.proofs.fault.WalkDisplay.fmt.Given as goal

abbrev pub invariant-loop-node : goal.invariant-loop-node
invariant-loop-node g l =
    IsPlainFormatter l.initial.f → HasWritten g.W.Write.write_str_gives l.initial.f (walk_text (take l.node-index l.self.0.now)) l.f
