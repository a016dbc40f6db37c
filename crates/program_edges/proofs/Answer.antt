-- How the answers of helpers become a function's own.
use Rattle.std.proofs.Common.{Option, Some, None}
use Rattle.std.specs.Prelude.{MatchOption}

-- the answer of a helper, said in other words
pub answer_turned : {T : Type 0} (r : Option T) (P P' : Type 0) (Q Q' : T → Type 0) → (P → P') → ((t : T) → Q t → Q' t) → MatchOption r P Q
    → MatchOption r P' Q'
answer_turned None P P' Q Q' f g h = f h
answer_turned (Some t) P P' Q Q' f g h = g t h
