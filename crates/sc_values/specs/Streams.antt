-- What a source and a sink count as failures, how far a source was read, and what a sink took of some bytes.
use Rattle.std.specs.Prelude.{ℕ, zero, suc, ◌≡◌, ◌≢◌, Option, Some, None, Result, Ok, Err, List, ◌∷◌, ◌++◌, take}
use Rattle.sc_values.specs.declared.streams.Failed.{Failed}
use Rattle.sc_values.specs.declared.streams.Progress.{Progress}
use Rattle.sc_values.specs.declared.streams.Progress.TheVariants as progress
use Rattle.sc_values.specs.declared.memory.Plan.{Plan}
use Rattle.sc_values.specs.declared.memory.Plan.TheVariants as plan

-- one for each Err
abbrev pub failed_reads : Result ℕ Failed → ℕ
failed_reads (Ok n) = 0
failed_reads (Err e) = 1

-- one for each Err, and one where no byte was taken of some
abbrev pub failed_writes : Result ℕ Failed → List ℕ → ℕ
failed_writes (Err e) bytes = 1
failed_writes (Ok zero) (b ∷ bytes) = 1
failed_writes r bytes = 0

-- how far a source was read that was read once more, into so much room: it says its end by no byte where there is room
abbrev pub progress_after : Progress → Result ℕ Failed → ℕ → Progress
progress_after progress.Open (Ok zero) (suc room) = progress.Ended
progress_after progress.Open result room = progress.Open
progress_after progress.Ended result room = progress.Behind
progress_after progress.Behind result room = progress.Behind

-- a source that was open is open: it has not said its end meanwhile
abbrev pub StaysOpen : Option Progress → Option Progress → Type 0
StaysOpen old new = old ≡ Some progress.Open → new ≡ Some progress.Open

-- a source that was open has not been read behind its end
abbrev pub IsNotReadBehind : Option Progress → Option Progress → Type 0
IsNotReadBehind old new = old ≡ Some progress.Open → new ≢ Some progress.Behind

-- known bytes grow by a beginning of these
abbrev pub GrowsInto : Option (List ℕ) → Option (List ℕ) → List ℕ → Type 0
GrowsInto None new bytes = Unit {0}
GrowsInto (Some old) None bytes = ⊥
GrowsInto (Some old) (Some new) bytes = (n : ℕ) × (new ≡ old ++ take n bytes)

-- a plan fails once
abbrev pub failures_of : Plan → ℕ
failures_of plan.Failed = 1
failures_of p = 0
