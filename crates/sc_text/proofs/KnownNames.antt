-- Whether the names of an expression are known, operation by operation.
use Rattle.std.proofs.Common.{◌≡◌, ℕ, ◌+◌, Bool, Some, drop, slice_get, ap}
use Rattle.std.specs.Prelude.{◌&&◌}
use Rattle.std.specs.List.{list_all}
use Rattle.sc_text.specs.declared.operation.TextOperation.{TextOperation}
use Rattle.sc_text.specs.Phrases.{Phrase}
use Rattle.sc_text.proofs.PartsInOrder.{drop_is}

pub known_step : (test : TextOperation → Bool) (p : Phrase) (at : ℕ) (o : TextOperation) → slice_get p at ≡ Some o → list_all test (drop at p)
    ≡ (test o && list_all test (drop (at + 1) p))
known_step test p at o e = ap (list_all test) (drop_is p at o e)
