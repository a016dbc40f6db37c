-- What playing came to: one record of what the player promises.
use Rattle.std.specs.Prelude.{ℕ, ◌≡◌, min, Result, List, length, IfOk, IfErr}
use Rattle.bytecode.specs.Image.{Image}
use Rattle.trace_player.specs.declared.player.PlayFault.{PlayFault}
use Rattle.trace_player.specs.Channels.{Seen, TellsFailures}
use Rattle.trace_player.specs.Trace.{Good, greatest}
use Rattle.state_traces.specs.Trace.{Words, Plays, Leaves}

-- the whole input was played, and made so many ticks
abbrev pub PlaysWhole : Words → Image → Seen → Seen → ℕ → Type 0
PlaysWhole words image before after ticks =
    (out : List (List ℕ)) × (ticks ≡ min (length out) greatest) × Plays words image before.source.to_come before.sink.taken after.sink.taken out Good

-- playing came to this result: what was written before it, and what failed
pub record CameTo (words : Words) (image : Image) (before after : Seen) (result : Result ℕ PlayFault) : Type 0 where
  pub whole : IfOk result (PlaysWhole words image before after)
  pub fault : IfErr result (Leaves words image before.source.to_come before.sink.taken after.sink.taken)
  pub failures : TellsFailures before after result
