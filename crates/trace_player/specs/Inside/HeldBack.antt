-- Output that is held back: bytes that count as written, and that no sink took yet.
use Rattle.std.specs.Prelude.{ℕ, ◌≡◌, ◌≢◌, Option, None, List, [], ◌∷◌}
use Rattle.std.specs.Io.KnownBytes.{Appends, append_known}
use Rattle.bytecode.specs.Image.{Image}
use Rattle.trace_player.specs.Channels.{Seen, SinkSeen}
use Rattle.trace_player.specs.Trace.{Good, Trace, AreLinesOf}

-- a sink, as if it had taken these bytes too
abbrev pub sink_with : SinkSeen → List ℕ → SinkSeen
sink_with sink held = record { taken = append_known sink.taken held; failures = sink.failures }

-- channels whose sink is seen so
abbrev pub with_held : Seen → List ℕ → Seen
with_held seen held = record { source = seen.source; sink = sink_with seen.sink held; rows = seen.rows }

-- known bytes stay at the front
abbrev pub Extends : Option (List ℕ) → Option (List ℕ) → Type 0
Extends old new = (more : List ℕ) × Appends old new more

-- the first line of an input makes a tick
pub record MakesTick (image : Image) (input : Option (List ℕ)) : Type 0 where
  pub line : List ℕ
  pub rest : List (List ℕ)
  pub cut : AreLinesOf input (line ∷ rest)
  pub shown : List ℕ
  pub trace : Trace image (line ∷ []) (shown ∷ []) Good

-- these bytes are held back behind what the sink took: only behind a tick, and only where nothing is published
pub record HoldsBack (image : Image) (before after : Seen) (held : List ℕ) : Type 0 where
  pub grows : Extends before.sink.taken after.sink.taken
  pub begun : held ≢ [] → MakesTick image before.source.to_come
  pub unwatched : held ≢ [] → after.rows ≡ None
