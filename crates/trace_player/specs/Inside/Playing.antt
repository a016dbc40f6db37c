-- What playing came to: one record of what the player promises.
use Rattle.std.specs.Prelude.{ℕ, ◌≡◌, min, Result, List, length, IfOk, IfErr}
use Rattle.bytecode.specs.Image.{Image}
use Rattle.trace_player.specs.declared.player.PlayFault.{PlayFault}
use Rattle.trace_player.specs.Channels.{Seen, TellsFailures}
use Rattle.trace_player.specs.Trace.{Plays, Leaves, Good, greatest}
use Rattle.trace_player.specs.Published.{PlaysAllTo, LeavesTo}

-- the whole input was played, and made so many ticks
abbrev pub PlaysWhole : Image → Seen → Seen → ℕ → Type 0
PlaysWhole image before after ticks =
    (out : List (List ℕ)) × (ticks ≡ min (length out) greatest) × Plays image before.source.to_come before.sink.taken after.sink.taken out Good

-- playing came to this result: what was written before it, what was published, and what failed
pub record CameTo (image : Image) (before after : Seen) (result : Result ℕ PlayFault) : Type 0 where
  pub whole : IfOk result (PlaysWhole image before after)
  pub fault : IfErr result (Leaves image before.source.to_come before.sink.taken after.sink.taken)
  pub published : IfOk result (PlaysAllTo image before.source.to_come before.sink.taken after.sink.taken before.rows after.rows)
  pub published_before : IfErr result (LeavesTo image before.source.to_come before.sink.taken after.sink.taken before.rows after.rows)
  pub failures : TellsFailures before after result
