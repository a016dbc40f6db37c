use Rattle.std.proofs.Common.{◌≡◌, ◌<◌, ℕ, false, Some, slice_get}
use Rattle.sc_text.specs.First.{comes_before}
use Rattle.sc_text.specs.declared.drafts.flaw.Flaw.{Flaw}
use Rattle.sc_text.proofs.drafts.told.is_past_told.Given as goal

abbrev pub invariant-loop-other : goal.invariant-loop-other
invariant-loop-other l =
    (k : ℕ) (g : Flaw) → k < l.other-index → slice_get l.found k ≡ Some g → comes_before l.flaw g ≡ false
