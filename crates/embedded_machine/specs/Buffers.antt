-- Buffers of a caller's.
use Rattle.std.specs.Prelude.{ℕ, ◌≡◌, ◌<◌, List, length, get_or}

-- each byte of a buffer is that of these bytes at its place, as far as they go
pub record BeginsAs (bytes buffer : List ℕ) : Type 0 where
  pub each : (k : ℕ) → k < length bytes → k < length buffer → get_or buffer k 0 ≡ get_or bytes k 0
