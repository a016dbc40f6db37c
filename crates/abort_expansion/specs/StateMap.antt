-- For which state of a chart a state of its core chart stands.
use Rattle.std.specs.Prelude.{ℕ, Option, None, List, slice_get, unwrap_or}

-- a number without a core state stands for none
abbrev pub chart_state : List (Option ℕ) → ℕ → Option ℕ
chart_state states core = unwrap_or (slice_get states core) None
