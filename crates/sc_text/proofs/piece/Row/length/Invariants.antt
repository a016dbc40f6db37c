use Rattle.std.proofs.Common.{◌≡◌, ◌+◌, drop}
use Rattle.std.specs.List.{prefix_len}
use Rattle.sc_text.specs.Inside.{is_of}
use Rattle.sc_text.proofs.piece.Row.length.Given as goal

abbrev pub invariant-loop-i : goal.invariant-loop-i
invariant-loop-i l = l.i + prefix_len (is_of l.self) (drop l.i l.bytes) ≡ prefix_len (is_of l.self) l.bytes
