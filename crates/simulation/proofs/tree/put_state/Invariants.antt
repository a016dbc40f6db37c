use Rattle.std.proofs.Common.{◌≡◌, ◌++◌, length, string_bytes}
use denote.Text.{Utf8}
use denote.Shadow.{shadow}
use Rattle.simulation.specs.Pieces.{pieces}
use Rattle.simulation.specs.Tree.{set_in, state_line}
use Rattle.simulation.proofs.tree.put_state.Given as goal

abbrev pub invariant-loop-inner : goal.invariant-loop-inner
invariant-loop-inner l = record {
  utf8 : shadow (Utf8 l.rest);
  line : string_bytes l.text ++ set_in l.is_active (pieces 47 l.rest) ≡ string_bytes l.fn.text ++ state_line l.is_active l.fn.path;
}

abbrev pub decreases-loop-inner : goal.decreases-loop-inner
decreases-loop-inner l = length l.rest
